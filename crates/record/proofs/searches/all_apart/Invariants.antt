-- Whatever test of two the closure computes, the elements that are left decide.
use Rattle.std.proofs.Common.{◌≡◌, Bool, length}
use Rattle.record.specs.Searches.{TestsPairs, all_apart}
use Rattle.record.proofs.searches.all_apart.Given as goal

abbrev pub invariant-loop-x : goal.invariant-loop-x
invariant-loop-x g l = (test : _ → _ → Bool) → TestsPairs g.F.Fn l.apart test → all_apart test l.fn.xs ≡ all_apart test l.rest

abbrev pub decreases-loop-x : goal.decreases-loop-x
decreases-loop-x g l = length l.rest
