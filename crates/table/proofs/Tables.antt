-- A well-formed table, place by place, for the crates that step one: `formed` takes `table_formed` apart and `well_formed_lem` puts it together
-- again; what storing a record at a place keeps; and that in a well-formed table the search finds the one record of an owner and a channel.
-- Assumes nothing.
use Prim.Native.Nat.{ℕ, zero, suc, ◌<◌}
use mathlib.Core.Bool.{Bool, true, false, not, ◌&&◌, false≢true}
use mathlib.Core.List.{List, [], ◌∷◌}
use mathlib.Core.Logic.{◌≢◌, inl, inr}
use mathlib.Core.Path.{◌≡◌, refl, sym, ap, ◌∙◌}
use native.Mathlib.Omega.{arith}
use lib.ListN.{length, set}
use lib.Seq.{get_or-set_same, get_or-set_other}
use borrow.Author.Tests.{eqb-true, eq-eqb, not-true}
use Rattle.message.specs.declared.Cid.{Cid}
use Rattle.record.specs.WellFormed.{well_formed}
use Rattle.record.specs.declared.Record.{Record}
use Rattle.record.proofs.Choices.{both, and}
use Rattle.record.proofs.Stored.{Stored, stored}
use Rattle.record.proofs.Formed.{free_formed}
use Rattle.table.specs.Table.{same, named, found, differs, table_formed, free_table, blank, record_at}
use Rattle.std.specs.Prelude.{Option, Some, None}
use Rattle.table.proofs.Finding.{found_at_lem, found_nowhere}

-- the used record r has the owner o and the channel c
abbrev pub Owns : Record → Cid → ℕ → Type 0
Owns r o c = (r.used ≡ true) × (r.terms.owner ≡ o) × (r.terms.channel ≡ c)

-- past the table stands a free record, so that neither law asks a bound of a place
pub record TableFormed (ts : List Record) : Type 0 where
  pub each : (k : ℕ) → well_formed (record_at ts k) ≡ true
  pub differ : (o : Cid) (c : ℕ) (i j : ℕ) → named o c (record_at ts i) ≡ true → named o c (record_at ts j) ≡ true → i ≡ j

-- ---- an owner and a channel

pub same_is : (a b : Cid) → same a b ≡ true → a ≡ b
unfolding same
same_is a b e =
    let halves = both _ _ e in
    let high = eqb-true a.high b.high halves.0 in
    let low = eqb-true a.low b.low halves.1 in
    let parts : ◌≡◌ {A = Cid} (record { high = a.high; low = a.low }) (record { high = b.high; low = b.low }) = cc in
    parts

pub is_same : (a b : Cid) → a ≡ b → same a b ≡ true
unfolding same
is_same a b e = and _ _ (eq-eqb a.high b.high (ap (λ (x : Cid). x.high) e)) (eq-eqb a.low b.low (ap (λ (x : Cid). x.low) e))

pub named_is : (o : Cid) (c : ℕ) (r : Record) → named o c r ≡ true → Owns r o c
unfolding named
named_is o c r e =
    let all = both _ _ e in
    let owned = both _ _ all.0 in
    (owned.0, same_is r.terms.owner o owned.1, eqb-true r.terms.channel c all.1)

pub is_named_lem : (o : Cid) (c : ℕ) (r : Record) → Owns r o c → named o c r ≡ true
unfolding named
is_named_lem o c r w = and _ _ (and _ _ w.0 (is_same r.terms.owner o w.1)) (eq-eqb r.terms.channel c w.2)

-- ---- well formed, both ways

-- none of these records has the owner and channel of r
differs_is : (r : Record) (ts : List Record) → differs r ts ≡ true → r.used ≡ true → (k : ℕ)
    → named r.terms.owner r.terms.channel (record_at ts k) ≢ true
unfolding differs named
differs_is r [] e u k n = false≢true n
differs_is r (s ∷ ts) e u zero n = no r.used _ u n (both _ _ e).0
  where
    no : (a b : Bool) → a ≡ true → b ≡ true → not (a && b) ≡ true → ⊥
    no a b f g w = false≢true (rw (f, g) at w)
differs_is r (s ∷ ts) e u (suc k) n = differs_is r ts (both (not (r.used && named r.terms.owner r.terms.channel s)) _ e).1 u k n

is_differs : (r : Record) (ts : List Record)
    → (r.used ≡ true → (k : ℕ) → named r.terms.owner r.terms.channel (record_at ts k) ≢ true)
    → differs r ts ≡ true
unfolding differs
is_differs r [] f = refl
is_differs r (s ∷ ts) f = and _ _ (yes r.used _ (λ u. f u 0)) (is_differs r ts (λ u k. f u (suc k)))
  where
    yes : (a b : Bool) → (a ≡ true → b ≢ true) → not (a && b) ≡ true
    yes false b f = refl
    yes true false f = refl
    yes true true f = absurd (f refl refl)

-- a free record differs from any
pub free_differs : (r : Record) (ts : List Record) → not r.used ≡ true → true ≡ differs r ts
free_differs r ts u = sym (is_differs r ts (λ v. absurd (false≢true (sym (not-true r.used u) ∙ v))))

-- a free record has no owner and no channel
free_named : (o : Cid) (c : ℕ) (r : Record) → r.used ≡ false → named o c r ≢ true
free_named o c r u n = false≢true (sym u ∙ (named_is o c r n).0)

-- the first record differs from the later ones
first_differs : (r : Record) (rs : List Record) → differs r rs ≡ true → (o : Cid) (c k : ℕ) → named o c r ≡ true
    → named o c (record_at rs k) ≢ true
first_differs r rs e o c k u v =
    let w = named_is o c r u in
    differs_is r rs e w.0 k (rw (w.1, w.2) v)

joined : (r : Record) (rs : List Record) → well_formed r ≡ true → differs r rs ≡ true → TableFormed rs → TableFormed (r ∷ rs)
joined r rs w e f = record { each = each; differ = differ }
  where
    each : (k : ℕ) → well_formed (record_at (r ∷ rs) k) ≡ true
    each zero = w
    each (suc k) = f.each k

    differ : (o : Cid) (c : ℕ) (i j : ℕ) → named o c (record_at (r ∷ rs) i) ≡ true → named o c (record_at (r ∷ rs) j) ≡ true → i ≡ j
    differ o c zero zero u v = refl
    differ o c zero (suc j) u v = absurd (first_differs r rs e o c j u v)
    differ o c (suc i) zero u v = absurd (first_differs r rs e o c i v u)
    differ o c (suc i) (suc j) u v = ap suc (f.differ o c i j u v)

pub formed : (ts : List Record) → table_formed ts ≡ true → TableFormed ts
unfolding table_formed
formed [] e =
    record { each = λ k. free_formed (blank []) refl; differ = λ o c i j u v. absurd (free_named o c (blank []) refl u) }
formed (r ∷ rs) e =
    let all = both _ _ e in
    let first = both _ _ all.0 in
    joined r rs first.0 first.1 (formed rs all.1)

pub well_formed_lem : (ts : List Record) → TableFormed ts → table_formed ts ≡ true
unfolding table_formed
well_formed_lem [] f = refl
well_formed_lem (r ∷ rs) f =
    and _ _
    (and _ _
    (f.each 0)
    (is_differs r rs
    (λ u k v. let z : 0 ≡ suc k = f.differ r.terms.owner r.terms.channel 0 (suc k) (is_named_lem _ _ r (u, refl, refl)) v in omega arith)))
    (well_formed_lem rs (record {
      each = λ k. f.each (suc k);
      differ = λ o c i j u v. let s : suc i ≡ suc j = f.differ o c (suc i) (suc j) u v in omega arith;
    }))

pub free_table_formed : table_formed free_table ≡ true
unfolding table_formed free_table differs well_formed
free_table_formed = refl

-- ---- a record stored at a place

module _ (ts : List Record) (i : ℕ) (r : Record) where
  pub set_there : (j : ℕ) → i ≢ j → record_at (set ts i r) j ≡ record_at ts j
  set_there j n = get_or-set_other ts i j r (blank []) (λ e. n (sym e))

  -- what stands at j after it: the record stored, or what stood there
  abbrev pub Stands : ℕ → Type 0
  Stands j = Stored (blank []) ts i r j

  module _ (h : i < length ts) where
    pub set_here : record_at (set ts i r) i ≡ r
    set_here = get_or-set_same ts i r (blank []) h

    pub set_at : (j : ℕ) → Stands j
    set_at j = stored (blank []) ts i r j (λ e. h)

    module _ (f : TableFormed ts) where
      -- a well-formed record that has its owner and channel in common with none but the one that it replaces
      pub set_formed : well_formed r ≡ true → ((o : Cid) (c j : ℕ) → named o c r ≡ true → named o c (record_at ts j) ≡ true → i ≡ j)
          → TableFormed (set ts i r)
      set_formed w own = record { each = λ k. each k (set_at k); differ = λ o c j k u v. differ o c j k u v (set_at j) (set_at k) }
        where
          each : (k : ℕ) → Stands k → well_formed (record_at (set ts i r) k) ≡ true
          each k (inl q) = rw q.1 w
          each k (inr q) = rw q.1 (f.each k)

          differ : (o : Cid) (c j k : ℕ) → named o c (record_at (set ts i r) j) ≡ true → named o c (record_at (set ts i r) k) ≡ true
              → Stands j → Stands k → j ≡ k
          differ o c j k u v (inl p) (inl q) = sym p.0 ∙ q.0
          differ o c j k u v (inl p) (inr q) = sym p.0 ∙ own o c k (rw p.1 at u) (rw q.1 at v)
          differ o c j k u v (inr p) (inl q) = sym (own o c j (rw q.1 at v) (rw p.1 at u)) ∙ q.0
          differ o c j k u v (inr p) (inr q) = f.differ o c j k (rw p.1 at u) (rw q.1 at v)

      pub free_set_formed : r.used ≡ false → TableFormed (set ts i r)
      free_set_formed u = set_formed (free_formed r u) (λ o c j n v. absurd (free_named o c r u n))

      -- the terms of a record stay while it is used
      pub same_set_formed : well_formed r ≡ true → (record_at ts i).used ≡ true → r.terms ≡ (record_at ts i).terms → TableFormed (set ts i r)
      same_set_formed w u t =
          set_formed w
          (λ o c j n v.
          let s = named_is o c r n in
          let owns : Owns (record_at ts i) o c = (u, cc, cc) in
          f.differ o c i j (is_named_lem o c (record_at ts i) owns) v)

      pub new_set_formed : well_formed r ≡ true → ((k : ℕ) → named r.terms.owner r.terms.channel (record_at ts k) ≡ false)
          → TableFormed (set ts i r)
      new_set_formed w none =
          set_formed w
          (λ o c j n v.
          let s = named_is o c r n in
          absurd (false≢true (sym (none j) ∙ rw (s.1, s.2) v)))

-- ---- the search of a well-formed table

pub found_formed : {ts : List Record} → TableFormed ts → (o : Cid) (c i : ℕ) → named o c (record_at ts i) ≡ true → found o c ts ≡ Some i
found_formed {ts} f o c i n = by (found o c ts) refl
  where
    by : (g : Option ℕ) → found o c ts ≡ g → g ≡ Some i
    by (Some j) e = ap Some (f.differ o c j i (found_at_lem o c ts j e).1 n)
    by None e = absurd (false≢true (sym (found_nowhere o c ts e i) ∙ n))
