-- The first N octets are copied, and then the last.
use Rattle.std.proofs.Common.{arith}
use Rattle.octets.proofs.Writes.{ends_copied}
use Rattle.octets.proofs.copy_ends.Goals as goal

pub returns : goal.returns
returns g c = ends_copied _ _ _ _ _ _ c.copy_piece.ensures c.copy_piece-2.ensures (omega arith) (omega arith) (omega arith)
