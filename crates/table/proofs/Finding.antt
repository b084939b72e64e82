-- What the two searches of a table say of its records, place by place. Assumes nothing.
use Prim.Native.Nat.{ℕ, ◌<◌, ◌≤◌}
use mathlib.Core.Bool.{Bool, true, false}
use mathlib.Core.List.{List, []}
use mathlib.Core.Path.{◌≡◌, refl}
use lib.Dec.{ltb}
use lib.ListN.{length, get_or-eq_default}
use borrow.Author.Tests.{ltb-true, ltb-false, not-true, not-false}
use Rattle.std.specs.Prelude.{Some, None}
use Rattle.std.proofs.lemmas.List.Quantifiers.{position-Some}
use Rattle.message.specs.declared.Cid.{Cid}
use Rattle.record.specs.declared.Record.{Record}
use Rattle.record.proofs.Searching.{none_passes}
use Rattle.table.specs.Table.{named, found, is_free, lowest_free, blank, record_at}

-- ---- the record of an owner and a channel

module _ (o : Cid) (c : ℕ) where
  -- it stands in the table and has them, and no record before it has
  pub found_at_lem : (ts : List Record) (i : ℕ) → found o c ts ≡ Some i
      → (i < length ts) × (named o c (record_at ts i) ≡ true) × ((k : ℕ) → k < i → named o c (record_at ts k) ≡ false)
  unfolding found
  found_at_lem ts i e = position-Some (named o c) ts i (blank []) e

  -- past the table stands a free record, which has no owner and no channel
  pub none_past : (ts : List Record) (k : ℕ) → length ts ≤ k → named o c (record_at ts k) ≡ false
  unfolding named
  none_past ts k l = rw (get_or-eq_default ts (blank []) l)

  pub found_nowhere : (ts : List Record) → found o c ts ≡ None → (k : ℕ) → named o c (record_at ts k) ≡ false
  unfolding found
  found_nowhere ts e k = by (ltb k (length ts)) refl
    where
      by : (b : Bool) → ltb k (length ts) ≡ b → named o c (record_at ts k) ≡ false
      by true l = none_passes (named o c) ts e k (blank []) (ltb-true k (length ts) l)
      by false l = none_past ts k (ltb-false k (length ts) l)

-- ---- the lowest free record

pub free_at : (ts : List Record) (i : ℕ) → lowest_free ts ≡ Some i
    → (i < length ts) × ((record_at ts i).used ≡ false) × ((k : ℕ) → k < i → (record_at ts k).used ≡ true)
unfolding lowest_free
free_at ts i e =
    let f = position-Some is_free ts i (blank []) e in
    (f.0, not-true (record_at ts i).used f.1, λ k l. not-false (record_at ts k).used (f.2 k l))

pub free_nowhere : (ts : List Record) → lowest_free ts ≡ None → (k : ℕ) → k < length ts → (record_at ts k).used ≡ true
unfolding lowest_free
free_nowhere ts e k l = not-false (record_at ts k).used (none_passes is_free ts e k (blank []) l)
