-- The piece is copied.
use Rattle.std.proofs.Common.{rules, arith}
use Rattle.octets.proofs.Numbers.{length_part}
use Rattle.octets.proofs.Writes.{copied}
use Rattle.octets.proofs.copy_piece.Goals as goal

pub returns : goal.returns
returns g c = copied _ _ _ _ _ (search rules) (omega (arith, length_part c.args.from.now c.args.i g.row.N (omega arith)))
