-- A remainder is given unless the modulus is 0, and then the sum is its own remainder.
use Rattle.std.proofs.Common.{rules}
use Rattle.std.proofs.Math.Nat.{mod-zero, min-le_left}
use Rattle.gap.specs.Standoff.{standoff}
use Rattle.gap.proofs.standoff_time.Goals as goal

pub returns : goal.returns
unfolding standoff
returns c = search (mod-zero, min-le_left, rules)
