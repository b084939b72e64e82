-- The record is freed, and its Leaving stands in the reply room.
use Rattle.member.proofs.Departing.{departed}
use Rattle.member.proofs.leaving.depart.Goals as goal

pub returns : goal.returns
returns c = departed _ _ _ _ _ _ _ c.freed.ensures c.put_leaving.ensures
