-- `all_apart` meets its contract. Assumes nothing.
use Rattle.std.proofs.Common.{rules, tests, refl}
use Rattle.std.proofs.lemmas.Iterator.{YieldsList-from_slice}
use Rattle.std.proofs.lemmas.Iterator.Search.{all_from_yields_List}
use Rattle.record.proofs.Searching.{apart_not, apart_on}
use Rattle.record.proofs.searches.all_apart.Goals as goal

pub returns-then-not-all : goal.returns-then-not-all
returns-then-not-all g c =
    λ test computes.
    let all = all_from_yields_List (test c.in-Some.x.now) _ _ c.all.result c.all.ensures.ran (YieldsList-from_slice c.in-Some.later.now cc) (λ y b q k. (search (rules, tests), computes _ _ _ (record { first = c.in-Some.x; second = y; shows = (refl, refl); says = record { met = search rules } }))) in
    apart_not test _ _ _ _ (c.loop-x.invariant test computes) (search rules) _ all c.if-not-all.true

pub loop-x-preserved : goal.loop-x-preserved
loop-x-preserved g c =
    λ test computes.
    let all = all_from_yields_List (test c.in-Some.x.now) _ _ c.all.result c.all.ensures.ran (YieldsList-from_slice c.in-Some.later.now cc) (λ y b q k. (search (rules, tests), computes _ _ _ (record { first = c.in-Some.x; second = y; shows = (refl, refl); says = record { met = search rules } }))) in
    apart_on test _ _ _ _ (c.loop-x.invariant test computes) (search rules) _ all c.if-not-all.false
