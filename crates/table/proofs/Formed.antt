-- A table is well formed if each record is, and each is apart from all later ones. Assumes nothing.
use mathlib.Core.Bool.{Bool, true, false, ◌&&◌}
use mathlib.Core.List.{List, [], ◌∷◌}
use mathlib.Core.Path.{◌≡◌, refl, ◌∙◌}
use Rattle.std.specs.List.{list_all}
use Rattle.record.specs.Searches.{all_apart}
use Rattle.record.specs.WellFormed.{well_formed}
use Rattle.record.specs.declared.Record.{Record}
use Rattle.table.specs.Table.{apart, differs, table_formed}

apart_is : (r : Record) (ss : List Record) → list_all (apart r) ss ≡ differs r ss
unfolding differs
apart_is r [] = refl
apart_is r (s ∷ ss) = rw (apart_is r ss)

pairs : (w l d a : Bool) → (w && l) && (d && a) ≡ (w && d) && (l && a)
pairs false l d a = refl
pairs true false false a = refl
pairs true false true a = refl
pairs true true false a = refl
pairs true true true a = refl

pub formed_by : (ts : List Record) → (list_all well_formed ts && all_apart apart ts) ≡ table_formed ts
unfolding table_formed all_apart
formed_by [] = refl
formed_by (r ∷ rs) =
    pairs (well_formed r) (list_all well_formed rs) (list_all (apart r) rs) (all_apart apart rs)
    ∙ rw (apart_is r rs, formed_by rs)

pub formed_then : (ts : List Record) → list_all well_formed ts ≡ true → all_apart apart ts ≡ table_formed ts
formed_then ts e = rw e at (formed_by ts)

pub formed_else : (ts : List Record) → list_all well_formed ts ≡ false → false ≡ table_formed ts
formed_else ts e = rw e at (formed_by ts)
