-- The turns that are left make of the releases so far what step 4 answers, and no count is past the turns that are spent.
use Rattle.std.proofs.Common.{◌≡◌, ◌≤◌, ◌-◌}
use Rattle.wrapper.specs.Release.{release_from, released}
use Rattle.wrapper.proofs.release.release.Given as goal

abbrev pub invariant-loop : goal.invariant-loop
invariant-loop l = (l.s.count ≤ l.counter) × (l.s.thrown ≤ l.counter) × (release_from (4 - l.counter) l.s ≡ released l.fn.r)
