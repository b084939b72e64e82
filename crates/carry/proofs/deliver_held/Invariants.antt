-- What is left after the turns so far makes of the answer and the room what is reached in the end.
use Rattle.std.proofs.Common.{◌≡◌, ◌+◌, ◌≤◌}
use Rattle.carry.specs.Carried.{deliver_from, listed}
use Rattle.carry.proofs.Carrying.{left}
use Rattle.carry.proofs.deliver_held.Given as goal

abbrev pub invariant-loop-j : goal.invariant-loop-j
invariant-loop-j l =
    (l.all.count ≤ l.j-index + 1)
    × (listed l.all (left l.held l.i l.fn.plan.after.places l.j-items l.j-index)
    ≡ listed l.fn.first (left l.held l.i l.fn.plan.after.places l.j-items 0))
    × (deliver_from l.all.count (left l.held l.i l.fn.plan.after.places l.j-items l.j-index) l.deliver
    ≡ deliver_from l.fn.first.count (left l.held l.i l.fn.plan.after.places l.j-items 0) l.initial.deliver)
