-- Whatever test the closure computes, the elements from the one that is looked at on decide.
use Rattle.std.proofs.Common.{◌-◌, ◌≤◌, Bool, length}
use Rattle.record.specs.Searches.{Tests}
use Rattle.record.proofs.Searching.{Left}
use Rattle.record.proofs.searches.lowest.Given as goal

abbrev pub invariant-loop-i : goal.invariant-loop-i
invariant-loop-i g l = (l.i ≤ length l.xs) × ((test : _ → Bool) → Tests g.F.Fn l.passes test → Left test l.xs l.i)

abbrev pub decreases-loop-i : goal.decreases-loop-i
decreases-loop-i g l = length l.xs - l.i
