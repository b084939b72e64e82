-- The octets of a record's four places taken by themselves, its slab: a wrapper's step does to the slab what it does to the places within the
-- held octets (`slab_after`, `slab_delivered`), and a step of another record leaves it (`slab_other`). Assumes nothing.
use Prim.Native.Nat.{ℕ, suc, ◌+◌, ◌-◌, ◌<◌, ◌≤◌}
use mathlib.Core.Bool.{Bool, true, false}
use mathlib.Core.List.{List, [], ◌∷◌, ◌++◌}
use mathlib.Core.Logic.{◌≢◌, ◌⊎◌, inl, inr}
use mathlib.Core.Path.{◌≡◌, refl, sym, ap, ◌∙◌}
use native.Mathlib.Omega.{arith}
use lib.Dec.{ltb}
use lib.ListN.{length, get_or, set, take, drop}
use lib.Seq.{take-take, drop-drop, take-set-lt, drop-set-add, sets, sets-eq}
use borrow.Author.Tests.{ltb-true, ltb-false}
use Rattle.std.proofs.lemmas.List.{drop-take}
use Rattle.octets.specs.Octets.{part, splice}
use Rattle.octets.proofs.Numbers.{length_part}
use Rattle.record.specs.WellFormed.{most_contents}
use Rattle.record.specs.declared.Place.{Place}
use Rattle.record.specs.Places.{no_place}
use Rattle.wrapper.specs.declared.Arrived.{Arrived}
use Rattle.wrapper.specs.declared.Fate.{Fate}
use Rattle.wrapper.specs.declared.Fate.TheVariants as fate
use Rattle.wrapper.specs.declared.Plan.{Plan}
use Rattle.carry.specs.Carried.{Delivered, place_begins, held_after, at_once, from_places, delivered_by}
use Rattle.carry.specs.Fits.{Fits}
use Rattle.carry.proofs.DeliveredLength.{of_first}
use Rattle.carry.proofs.OwnPlaces.{held_beside}
use Rattle.demands.specs.Channel.{places_size, slab}

-- ---- parts of parts, and writes into parts

part_part : (s : List ℕ) (at m from n : ℕ) → from + n ≤ m → part (part s at m) from n ≡ part s (at + from) n
part_part s at m from n h =
    let ends : m ≡ from + (m - from) = omega arith in
    ap (λ (k : ℕ). take n (drop from (take k (drop at s)))) ends
    ∙ ap (take n) (drop-take from (m - from) (drop at s))
    ∙ take-take n (m - from) (drop from (drop at s)) (omega arith)
    ∙ ap (take n) (drop-drop from at s)

part_set : (s : List ℕ) (at m from y : ℕ) → from < m → part (set s (at + from) y) at m ≡ set (part s at m) from y
part_set s at m from y h = ap (take m) (drop-set-add at s from y) ∙ take-set-lt m (drop at s) from y h

part_sets : (ys s : List ℕ) (at m from : ℕ) → from + length ys ≤ m → part (sets s (at + from) ys) at m ≡ sets (part s at m) from ys
part_sets [] s at m from h = refl
part_sets (y ∷ ys) s at m from h =
    let next : suc (at + from) ≡ at + suc from = omega arith in
    ap (λ (k : ℕ). part (sets (set s (at + from) y) k ys) at m) next
    ∙ part_sets ys (set s (at + from) y) at m (suc from) (omega arith)
    ∙ ap (λ (p : List ℕ). sets p (suc from) ys) (part_set s at m from y (omega arith))

part_written : (s : List ℕ) (at m from : ℕ) (ys : List ℕ) → from + length ys ≤ m → at + m ≤ length s
    → part (splice s (at + from) ys) at m ≡ splice (part s at m) from ys
unfolding splice
part_written s at m from ys h l =
    ap (λ (p : List ℕ). part p at m) (sym (sets-eq ys s (at + from) (omega arith)))
    ∙ part_sets ys s at m from h
    ∙ sets-eq ys (part s at m) from (omega (arith, length_part s at m l))

-- ---- the places of one record

-- a place in the slab is the place in the held octets
pub slab_place : (i j n : ℕ) (held : List ℕ) → j < 4 → n ≤ most_contents → part (slab i held) (place_begins 0 j) n ≡ part held (place_begins i j) n
unfolding place_begins
slab_place i j n held hj hn =
    let at : place_begins i 0 + place_begins 0 j ≡ place_begins i j = omega arith in
    part_part held (place_begins i 0) places_size (place_begins 0 j) n (omega arith) ∙ ap (λ (k : ℕ). part held k n) at

slab_ends : (i : ℕ) → i < 8 → place_begins i 0 + places_size ≤ 46528
unfolding place_begins
slab_ends i h = omega arith

slab_starts : (i j n : ℕ) → j < 4 → n ≤ most_contents → (place_begins i 0 + place_begins 0 j ≡ place_begins i j) × (place_begins 0 j + n ≤ places_size)
unfolding place_begins
slab_starts i j n hj hn = (omega arith, omega arith)

module _ (i : ℕ) (f : Fate) (c held : List ℕ) (hi : i < 8) (place : (j : ℕ) → f ≡ fate.Held j → j < 4) (most : length c ≤ most_contents)
    (room : length held ≡ 46528) where
  pub slab_after : slab i (held_after i f c held) ≡ held_after 0 f c (slab i held)
  slab_after = by f refl
    where
      by : (g : Fate) → f ≡ g → slab i (held_after i g c held) ≡ held_after 0 g c (slab i held)
      by fate.Delivered e = refl
      by (fate.Held j) e =
          let at = slab_starts i j (length c) (place j e) most in
          ap (λ (k : ℕ). slab i (splice held k c)) (sym at.0)
          ∙ part_written held (place_begins i 0) places_size (place_begins 0 j) c at.1 (omega (arith, slab_ends i hi))
      by fate.Dropped e = refl

  -- a slab of another record
  pub slab_other : (k : ℕ) → k ≢ i → slab k (held_after i f c held) ≡ slab k held
  unfolding place_begins
  slab_other k z = held_beside i f c held hi place most room (place_begins k 0) places_size (λ j e. by (ltb k i) refl j (place j e))
    where
      by : (t : Bool) → ltb k i ≡ t → (j : ℕ) → j < 4
          → (place_begins k 0 + places_size ≤ place_begins i j) ⊎ (place_begins i j + length c ≤ place_begins k 0)
      by true e j h = let l : k < i = ltb-true k i e in inl (omega arith)
      by false e j h = let l : i ≤ k = ltb-false k i e in inr (omega arith)

-- ---- what is delivered

from_slab : (h g : List ℕ) (i k : ℕ) (ps : List Place) (order : List ℕ)
    → ((n : ℕ) → n < length order
    → part h (place_begins i (get_or order n 0)) (get_or ps (get_or order n 0) no_place).len
    ≡ part g (place_begins k (get_or order n 0)) (get_or ps (get_or order n 0) no_place).len)
    → from_places h i ps order ≡ from_places g k ps order
from_slab h g i k ps [] same = refl
from_slab h g i k ps (j ∷ order) same =
    rw (same 0 (omega arith), from_slab h g i k ps order (λ n l. same (suc n) (omega arith)))

pub slab_delivered : (held : List ℕ) (i : ℕ) (w : Arrived) (c : List ℕ) (p : Plan) → Fits p → i < 8 → length c ≤ most_contents → length held ≡ 46528
    → delivered_by held i w c p ≡ delivered_by (slab i held) 0 w c p
unfolding delivered_by
slab_delivered held i w c p fits hi most room =
    ap (λ (ds : List Delivered). at_once p.fate w c ++ ds)
    (from_slab (held_after i p.fate c held) (held_after 0 p.fate c (slab i held)) i 0 p.after.places (take p.count p.order)
    (of_first
    (λ j.
    part (held_after i p.fate c held) (place_begins i j) (get_or p.after.places j no_place).len
    ≡ part (held_after 0 p.fate c (slab i held)) (place_begins 0 j) (get_or p.after.places j no_place).len)
    p.count p.order
    (λ k l.
    sym (slab_place i (get_or p.order k 0) _ (held_after i p.fate c held) (fits.order k l) (fits.contents k l))
    ∙ ap (λ (s : List ℕ). part s (place_begins 0 (get_or p.order k 0)) (get_or p.after.places (get_or p.order k 0) no_place).len)
    (slab_after i p.fate c held hi fits.place most room))))
