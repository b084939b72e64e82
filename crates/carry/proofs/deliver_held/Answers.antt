-- `deliver_held` meets its contract: each turn delivers the wrapper of its place, and in the end nothing is left. Assumes nothing.
use Rattle.std.proofs.Common.{◌≡◌, ◌+◌, ◌<◌, [], ◌∷◌, length, get_or, take, arith, rules, ap, ◌∙◌}
use Rattle.carry.specs.Carried.{Delivered, one_more, deliver_from, listed}
use Rattle.carry.specs.declared.Deliveries.{Deliveries}
use Rattle.carry.proofs.Carrying.{this_is, left_none, listed_turn, written_turn}
use Rattle.carry.proofs.deliver_held.Goals as goal

pub loop-j-preserved : goal.loop-j-preserved
loop-j-preserved c =
    let a = c.args in
    let l = c.loop-j in
    let d = c.deliver_one-all in
    let ps = a.plan.after.places in
    let order = take a.plan.count a.plan.order in
    let more : l.j-index < length order = search rules in
    let this = this_is a.held.now a.i ps order (get_or order l.j-index 0) _ c.place_begins-begin.ensures.0 in
    let told = rw (c.into.ensures, c.from.ensures) at d.ensures in
    let grown = told.0 ∙ ap (one_more l.all) this in
    let cell = told.1 ∙ ap (λ (x : Delivered). deliver_from l.all.count (x ∷ []) l.deliver) this in
    let count : d.result.count ≡ l.all.count + 1 = ap (λ (x : Deliveries). x.count) grown in (
      omega (arith, count, l.invariant.0),
      listed_turn a.held.now a.i ps order l.j-index more l.all d.result grown ∙ l.invariant.1,
      (rw count (written_turn a.held.now a.i ps order l.j-index more l.all.count l.deliver d.new.deliver cell)) ∙ l.invariant.2,
    )

pub returns : goal.returns
unfolding listed deliver_from
returns c =
    let a = c.args in
    let l = c.loop-j in
    let order = take a.plan.count a.plan.order in
    let none = left_none a.held.now a.i a.plan.after.places order l.j-index (search rules) in
    (rw none at l.invariant.1, rw none at l.invariant.2)
