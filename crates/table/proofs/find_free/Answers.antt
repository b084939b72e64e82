-- The search of `record` by this test.
use Rattle.std.proofs.Common.{rules}
use Rattle.table.specs.Table.{lowest_free, is_free}
use Rattle.table.proofs.find_free.Goals as goal

pub returns-clause-first : goal.returns-clause-first
unfolding lowest_free
returns-clause-first c =
    let first = c.lowest.ensures.first is_free (λ x answer says. search (says, rules)) in
    search (first, rules)
