-- The runs are copied, and over their end and behind it the last 32 octets.
use Rattle.std.proofs.Common.{◌-◌, length, arith}
use Rattle.octets.proofs.Writes.{copied_so_far, end_copied}
use Rattle.octets.proofs.copy_long.Goals as goal

pub returns : goal.returns
returns c =
    end_copied _ _ _ _ _ c.loop-j.j (length c.args.from.now - 32) 32 (copied_so_far _ _ _ _ _ c.loop-j.invariant (omega arith)) c.copy_piece.ensures
    (omega arith) (omega arith) (omega arith) (omega arith)
