-- The bits of what `ahead_of` counted, read as a signed number, are the distance.
use Rattle.counter.proofs.Machine.{read_signed}
use Rattle.counter.proofs.signed_distance.Goals as goal

pub returns : goal.returns
returns c = read_signed c.args.old c.args.new c.ahead_of.result c.cast_signed.result (record { fits = c.ahead_of.type_inv }) c.cast_signed.ensures c.ahead_of.ensures
