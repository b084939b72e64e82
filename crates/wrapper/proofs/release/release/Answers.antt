-- `release` meets its contract: the search asks of each place whether it is next, and a turn is a release or leaves nothing to release. Assumes nothing.
use Rattle.std.proofs.Common.{rules, arith, sym, ◌∙◌}
use Rattle.wrapper.specs.Release.{is_next, next_held}
use Rattle.wrapper.proofs.Releasing.{no_more, release_counts, turn_spent, turns_spent}
use Rattle.wrapper.proofs.release.release.Goals as goal

pub loop-preserved : goal.loop-preserved
unfolding next_held
loop-preserved c =
    let l = c.loop in
    let next = c.lowest.ensures.first (is_next l.s.after.reliable) (λ x answer says. search (says, rules)) in
    let counts = release_counts l.s _ _ c.release_at-s.ensures in (
      omega (arith, counts, l.invariant.0),
      omega (arith, counts, l.invariant.1),
      turn_spent l.counter l.s _ _ _ (omega arith) (sym next ∙ c.in-Some.is) c.release_at-s.ensures l.invariant.2,
    )

pub returns-in_default : goal.returns-in_default
unfolding next_held
returns-in_default c =
    let l = c.loop in
    let next = c.lowest.ensures.first (is_next l.s.after.reliable) (λ x answer says. search (says, rules)) in
    sym (no_more _ l.s (sym next ∙ c.in_default.is)) ∙ l.invariant.2

pub returns-after-loop : goal.returns-after-loop
returns-after-loop c = turns_spent c.loop.counter c.loop.s _ (omega arith) c.loop.invariant.2
