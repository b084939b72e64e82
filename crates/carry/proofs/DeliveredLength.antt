-- The contents of everything that is delivered are as long as its delivery says and fit a cell, and there are cells for all. Assumes nothing.
use Prim.{tt}
use Prim.Native.Nat.{ℕ, zero, suc, ◌<◌, ◌≤◌}
use mathlib.Core.List.{List, [], ◌∷◌, ◌++◌, map}
use mathlib.Core.Path.{◌≡◌, sym}
use native.Mathlib.Omega.{arith}
use lib.ListN.{length, get_or, take, length-append, length-take, length-map}
use lib.Seq.{get_or-take}
use Rattle.octets.proofs.Numbers.{length_part}
use Rattle.record.specs.Places.{place_at}
use Rattle.record.specs.WellFormed.{most_contents}
use Rattle.record.specs.declared.Place.{Place}
use Rattle.wrapper.specs.declared.Arrived.{Arrived}
use Rattle.wrapper.specs.declared.Fate.{Fate}
use Rattle.wrapper.specs.declared.Fate.TheVariants as fate
use Rattle.wrapper.specs.declared.Plan.{Plan}
use Rattle.carry.specs.Carried.{place_begins, held_after, at_once, from_place, delivered_by}
use Rattle.carry.specs.Whole.{Each, Whole}
use Rattle.carry.specs.Fits.{Fits}
use Rattle.carry.proofs.Carrying.{place_ends, at_once_most}
use Rattle.carry.proofs.OwnPlaces.{held_length}

-- ---- of each element of a list

pub each_append : {A : Type 0} (P : A → Type 0) (xs ys : List A) → Each P xs → Each P ys → Each P (xs ++ ys)
each_append P [] ys h g = g
each_append P (x ∷ xs) ys h g = (h.0, each_append P xs ys h.1 g)

pub each_map : {A B : Type 0} (P : B → Type 0) (f : A → B) (z : A) (xs : List A) → ((k : ℕ) → k < length xs → P (f (get_or xs k z)))
    → Each P (map f xs)
each_map P f z [] h = tt
each_map P f z (x ∷ xs) h = (h 0 (omega arith), each_map P f z xs (λ k l. h (suc k) (omega arith)))

pub each_at : {A : Type 0} (P : A → Type 0) (z : A) (xs : List A) → Each P xs → (k : ℕ) → k < length xs → P (get_or xs k z)
each_at P z [] h k l = absurd (omega arith)
each_at P z (x ∷ xs) h zero l = h.0
each_at P z (x ∷ xs) h (suc k) l = each_at P z xs h.1 k (omega arith)

-- of each of the first n, of each number below n
pub of_first : (P : ℕ → Type 0) (n : ℕ) (xs : List ℕ) → ((k : ℕ) → k < n → P (get_or xs k 0))
    → (k : ℕ) → k < length (take n xs) → P (get_or (take n xs) k 0)
of_first P n xs h k l =
    let m : k < n = omega (arith, length-take n xs) in
    rw (get_or-take n xs k 0 m) (h k m)

-- ---- the deliveries

module _ (held : List ℕ) (i : ℕ) (w : Arrived) (c : List ℕ) (p : Plan) (fits : Fits p) (room : length held ≡ 46528) (hi : i < 8)
    (said : w.len ≡ length c) (most : length c ≤ most_contents) where
  at_once_whole : (f : Fate) → Each Whole (at_once f w c)
  at_once_whole fate.Delivered = ((sym said, omega arith), tt)
  at_once_whole (fate.Held j) = tt
  at_once_whole fate.Dropped = tt

  abbrev after : List ℕ
  after = held_after i p.fate c held

  place_whole : (j : ℕ) (q : Place) → j < 4 → q.len ≤ most_contents → Whole (from_place after i j q)
  place_whole j q hj hq =
      let same = held_length i p.fate c held hi fits.place most room in
      (length_part after (place_begins i j) q.len (omega (arith, place_ends i j q.len hi hj hq)), hq)

  pub delivered_length : Each Whole (delivered_by held i w c p)
  unfolding delivered_by
  delivered_length =
      each_append Whole (at_once p.fate w c) _ (at_once_whole p.fate)
      (each_map Whole _ 0 (take p.count p.order)
      (of_first (λ j. Whole (from_place after i j (place_at p.after.places j))) p.count p.order
      (λ k l.
      let j = get_or p.order k 0 in
      place_whole j (place_at p.after.places j) (fits.order k l) (fits.contents k l))))

-- no more are delivered than there are cells
pub delivered_few : (held : List ℕ) (i : ℕ) (w : Arrived) (c : List ℕ) (p : Plan) → Fits p → length (delivered_by held i w c p) ≤ 5
unfolding delivered_by
delivered_few held i w c p fits =
    simp (length-append, length-map)
    (omega (arith, at_once_most p.fate w c, length-take p.count p.order, fits.count))
