-- The octets below j are copied: what is left of `to` is as it was.
use Rattle.std.proofs.Common.{◌≡◌}
use Rattle.std.proofs.Math.Seq.{paste}
use Rattle.octets.proofs.copy_long.Given as goal

abbrev pub invariant-loop-j : goal.invariant-loop-j
invariant-loop-j l = l.to ≡ paste l.initial.to l.at l.from l.j
