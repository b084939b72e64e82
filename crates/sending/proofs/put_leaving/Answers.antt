-- A Leaving is short and has a form. Assumes nothing.
use Rattle.sending.proofs.Messages.{leaving_fits}
use Rattle.std.proofs.Common.{rules}
use Rattle.sending.proofs.put_leaving.Goals as goal

pub put_message-requires : goal.put_message-requires
put_message-requires c = leaving_fits _ _ (search rules) _ _ _ c.departure_of.ensures
