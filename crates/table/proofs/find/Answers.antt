-- The search of `record` by this test.
use Rattle.std.proofs.Common.{rules}
use Rattle.table.specs.Table.{found, named}
use Rattle.table.proofs.find.Goals as goal

pub returns-clause-first : goal.returns-clause-first
unfolding found
returns-clause-first c =
    let first = c.lowest.ensures.first (named c.args.owner c.args.channel) (λ x answer says. search (says, rules)) in
    search (first, rules)
