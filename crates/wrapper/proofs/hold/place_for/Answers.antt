-- `place_for` meets its contract: the search asks of each place whether it is free. Assumes nothing.
use Rattle.std.proofs.Common.{rules}
use Rattle.wrapper.specs.Hold.{place_for, lowest_free, is_free}
use Rattle.wrapper.proofs.hold.place_for.Goals as goal

pub returns-clause-found : goal.returns-clause-found
unfolding place_for lowest_free
returns-clause-found c =
    let free = c.lowest.ensures.first is_free (λ x answer says. search (says, rules)) in
    search (free, rules)
