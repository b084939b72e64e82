-- Each record by itself, and then any two.
use Rattle.std.proofs.Common.{◌≡◌, true, false, rules, tests, ◌∙◌, sym}
use Rattle.std.specs.List.{list_all}
use Rattle.std.proofs.lemmas.Iterator.{YieldsList-from_slice}
use Rattle.std.proofs.lemmas.Iterator.Search.{all_from_yields_List}
use Rattle.record.specs.WellFormed.{well_formed}
use Rattle.table.specs.Table.{apart}
use Rattle.table.proofs.Formed.{formed_then, formed_else}
use Rattle.table.proofs.is_formed.Goals as goal

pub returns-then-all : goal.returns-then-all
returns-then-all c =
    let each : c.all.result ≡ list_all well_formed c.args.table =
    all_from_yields_List well_formed _ _ c.all.result c.all.ensures.ran (YieldsList-from_slice c.args.table cc) (λ x b q k. search (rules, tests)) in
    let well : c.all.result ≡ true = search rules in
    c.all_apart.ensures apart (λ r s answer k. search rules) ∙ formed_then _ (sym each ∙ well)

pub returns-else-all : goal.returns-else-all
returns-else-all c =
    let each : c.all.result ≡ list_all well_formed c.args.table =
    all_from_yields_List well_formed _ _ c.all.result c.all.ensures.ran (YieldsList-from_slice c.args.table cc) (λ x b q k. search (rules, tests)) in
    let ill : c.all.result ≡ false = search rules in
    ill ∙ formed_else _ (sym each ∙ ill)
