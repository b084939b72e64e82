-- The records before i have moved, and those from i on are left.
use Rattle.member.proofs.Passing.{Turned}
use Rattle.member.proofs.elapsing.pass_all.Given as goal

abbrev pub invariant-loop-i : goal.invariant-loop-i
invariant-loop-i l = Turned l.ms l.initial.after l.initial.cells l.i l.after l.cells
