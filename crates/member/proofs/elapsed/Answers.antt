-- The refusals in their order, and then the turns over all records.
use Rattle.std.proofs.Common.{rules, sym, ◌∙◌}
use borrow.Author.Tests.{not-false}
use Rattle.member.proofs.Lent.{answers_why}
use Rattle.member.proofs.Passing.{elapsed_sizes_lem, elapsed_unformed, elapsed_long, elapsed_passes}
use Rattle.member.proofs.elapsed.Goals as goal

pub returns-in_err-cells : goal.returns-in_err-cells
returns-in_err-cells c =
    let none = c.in_err-cells.ensures in
    let why = answers_why _ _ _ _ none.ok_part none.value c.from_residual.ensures.1 in
    elapsed_sizes_lem _ _ _ _ (search rules) (rw none.ok_part at c.as_mut_array.ensures.cases) why

pub returns-then-not-is_formed : goal.returns-then-not-is_formed
returns-then-not-is_formed c =
    let room = rw c.in_ok-cells.ensures.ok_part at c.as_mut_array.ensures.cases in
    elapsed_unformed _ _ _ _ (search rules) _ room _ c.is_formed.ensures (search rules) (search rules)

pub returns-then-ms-gt-LONGEST : goal.returns-then-ms-gt-LONGEST
returns-then-ms-gt-LONGEST c =
    let room = rw c.in_ok-cells.ensures.ok_part at c.as_mut_array.ensures.cases in
    elapsed_long _ _ _ _ (search rules) _ room _ c.is_formed.ensures (search rules) (search rules) (search rules)

pub pass_all-requires : goal.pass_all-requires
pass_all-requires c = (sym c.is_formed.ensures ∙ not-false _ (search rules), search rules)

pub returns : goal.returns
returns c =
    let room = rw c.in_ok-cells.ensures.ok_part at c.as_mut_array.ensures.cases in
    elapsed_passes _ _ _ _ (search rules) _ room _ c.is_formed.ensures (search rules) (search rules) _ c.pass_all.ensures
