-- `lowest` meets its contract. Assumes nothing.
use Rattle.std.proofs.Common.{rules, refl}
use Rattle.record.proofs.Searching.{left_at_first, found_here, found_on, found_nowhere}
use Rattle.record.proofs.searches.lowest.Goals as goal

pub loop-i-init : goal.loop-i-init
loop-i-init g c = (search rules, λ test computes. left_at_first test _)

pub returns-then-i-xs-clause-first : goal.returns-then-i-xs-clause-first
returns-then-i-xs-clause-first g c = λ test computes. found_nowhere test _ _ (c.loop-i.invariant.1 test computes) (search rules)

pub loop-i-preserved : goal.loop-i-preserved
loop-i-preserved g c = (
  search rules,
  λ test computes.
      let says = computes _ _ (record { shown = _; shows = refl; says = record { met = c.passes.ensures } }) in
      found_on test _ _ (c.loop-i.invariant.1 test computes) _ (search rules) c.index-xs-i.is _ says c.if-passes.false,
)

pub returns-clause-first : goal.returns-clause-first
returns-clause-first g c =
    λ test computes.
    let says = computes _ _ (record { shown = _; shows = refl; says = record { met = c.passes.ensures } }) in
    found_here test _ _ (c.loop-i.invariant.1 test computes) _ (search rules) c.index-xs-i.is _ says c.if-passes.true
