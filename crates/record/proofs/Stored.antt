-- What stands in a list after one element was stored in it, and the same for places of which only the used ones are looked at. Assumes nothing.
use Prim.Native.Nat.{ℕ, zero, suc, ◌<◌}
use mathlib.Core.Bool.{Bool, true, false, false≢true}
use mathlib.Core.List.{List, [], ◌∷◌}
use mathlib.Core.Logic.{◌≢◌, ◌⊎◌, inl, inr}
use mathlib.Core.Path.{◌≡◌, refl}
use native.Mathlib.Omega.{arith}
use lib.Dec.{eqb}
use lib.ListN.{length, get_or, set, length-set}
use lib.Seq.{get_or-set_same, get_or-set_other}
use borrow.Author.Tests.{eqb-true, eqb-false}
use Rattle.record.specs.Places.{no_place, place_at}
use Rattle.record.specs.declared.Place.{Place}

-- what stands at j after x was stored at i: x itself, or what stood there. What is read past the end is d
abbrev pub Stored : {A : Type 0} → A → List A → ℕ → A → ℕ → Type 0
Stored d xs i x j = ((i ≡ j) × (get_or (set xs i x) j d ≡ x)) ⊎ ((i ≢ j) × (get_or (set xs i x) j d ≡ get_or xs j d))

pub stored : {A : Type 0} (d : A) (xs : List A) (i : ℕ) (x : A) (j : ℕ) → (i ≡ j → i < length xs) → Stored d xs i x j
stored d xs i x j h = by (eqb i j) refl
  where
    by : (b : Bool) → eqb i j ≡ b → Stored d xs i x j
    by true e = let q = eqb-true i j e in inl (q, rw (← q) (get_or-set_same xs i x d (h q)))
    by false e = let n = eqb-false i j e in inr (n, get_or-set_other xs i j x d (λ q. n (rw q)))

-- a used place is one of the places
pub used_below : (ps : List Place) (j : ℕ) → (place_at ps j).used ≡ true → j < length ps
used_below [] j u = absurd (false≢true u)
used_below (p ∷ ps) zero u = omega arith
used_below (p ∷ ps) (suc j) u = omega (arith, used_below ps j u)

-- a used place after one was stored: that one, or another as it was
pub used_stored : (ps : List Place) (i : ℕ) (q : Place) (j : ℕ) → (place_at (set ps i q) j).used ≡ true → Stored no_place ps i q j
used_stored ps i q j u = stored no_place ps i q j (λ e. omega (arith, used_below (set ps i q) j u, length-set ps i q))
