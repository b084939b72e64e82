-- Step 4 ends only where no held wrapper is next, since each release frees a used place and there are four; and it frees the places that it
-- delivers or throws out of, each once, and lets all others stand. Assumes nothing.
use Prim.Native.Nat.{ℕ, zero, suc, ◌+◌, ◌<◌, ◌≤◌}
use mathlib.Core.Bool.{Bool, true, false, cond, and-eq-true_iff, false≢true}
use mathlib.Core.List.{List, [], ◌∷◌}
use mathlib.Core.Logic.{◌≢◌, ◌⊎◌, inl, inr}
use mathlib.Core.Path.{◌≡◌, refl, sym, ap, ◌∙◌}
use native.Mathlib.Omega.{arith}
use lib.Dec.{eqb}
use lib.ListN.{length, get_or, set, length-set}
use lib.Seq.{get_or-set_same, get_or-set_other}
use borrow.Author.Tests.{eqb-true, eqb-false}
use Rattle.std.specs.Prelude.{Option, Some, None}
use Rattle.counter.specs.declared.Reliable.{Reliable}
use Rattle.record.specs.Places.{no_place, place_at}
use Rattle.record.specs.With.{free_place}
use Rattle.record.specs.declared.Place.{Place}
use Rattle.record.specs.declared.Record.{Record}
use Rattle.record.proofs.Searching.{none_found}
use Rattle.std.proofs.lemmas.List.Quantifiers.{position-Some}
use Rattle.wrapper.specs.Release.{is_next, next_held, release_by, release_at, release_from, released}
use Rattle.wrapper.specs.Since.{used_in, Freed, Since}
use Rattle.wrapper.specs.declared.Released.{Released}
use Rattle.wrapper.proofs.Releasing.{held_at, passing, release_is, along, no_more, one_more_lem}

-- ---- the place that is found

-- it is a used one of the places, and holds a wrapper that is next
pub found_next : (s : Released) (i : ℕ) → next_held s.after.reliable s.after.places ≡ Some i
    → (i < length s.after.places) × (is_next s.after.reliable (held_at s i) ≡ true)
unfolding next_held
found_next s i e =
    let f = position-Some (is_next s.after.reliable) s.after.places i no_place e in
    (f.0, f.1)

pub next_used : (r : Reliable) (p : Place) → is_next r p ≡ true → p.used ≡ true
next_used r p e = ((and-eq-true_iff p.used _).0 e).0

-- ---- how many places are used

used_within : (ps : List Place) → used_in ps ≤ length ps
used_within [] = omega arith
used_within (p ∷ ps) = by p.used (used_within ps)
  where
    by : (b : Bool) {m n : ℕ} → m ≤ n → cond b (suc m) m ≤ suc n
    by true h = omega arith
    by false h = omega arith

-- a used place that becomes a free one is one fewer
used_set : (ps : List Place) (i : ℕ) (q : Place) → i < length ps → (place_at ps i).used ≡ true → q.used ≡ false
    → suc (used_in (set ps i q)) ≡ used_in ps
used_set [] i q h u v = absurd (omega arith)
used_set (p ∷ ps) zero q h u v = rw (u, v)
used_set (p ∷ ps) (suc i) q h u v = by p.used (used_set ps i q (omega arith) u v)
  where
    by : (b : Bool) {m n : ℕ} → suc m ≡ n → suc (cond b (suc m) m) ≡ cond b (suc n) n
    by true e = ap suc e
    by false e = e

-- without a used place none is next
none_used : (r : Reliable) (ps : List Place) → used_in ps ≡ 0 → next_held r ps ≡ None
unfolding next_held
none_used r ps e = none_found (is_next r) ps (unused ps e)
  where
    unused : (ps : List Place) → used_in ps ≡ 0 → (k : ℕ) (d : Place) → k < length ps → is_next r (get_or ps k d) ≡ false
    unused [] e k d h = absurd (omega arith)
    unused (p ∷ ps) e k d h = by p.used refl (λ z. unused ps z) k h
      where
        by : (b : Bool) → p.used ≡ b
            → (used_in ps ≡ 0 → (k : ℕ) (d : Place) → k < length ps → is_next r (get_or ps k d) ≡ false)
            → (k : ℕ) → k < length (p ∷ ps) → is_next r (get_or (p ∷ ps) k d) ≡ false
        by true u later k h =
            let z : suc (used_in ps) ≡ 0 = rw u at e in
            absurd (omega arith)
        by false u later zero h = rw u
        by false u later (suc k) h = later (rw u at e) k d (omega arith)

-- ---- one release

by_places : (b : Bool) (s : Released) (i : ℕ) (p : Place) → (release_by b s i p).after.places ≡ set s.after.places i (free_place p)
by_places true s i p = refl
by_places false s i p = refl

pub release_places : (s : Released) (i : ℕ) → (release_at s i).after.places ≡ set s.after.places i (free_place (held_at s i))
release_places s i = rw (release_is s i) (by_places (passing s i) s i (held_at s i))

one_fewer : (s : Released) (i : ℕ) → next_held s.after.reliable s.after.places ≡ Some i
    → suc (used_in (release_at s i).after.places) ≡ used_in s.after.places
one_fewer s i e =
    let f = found_next s i e in
    let used = next_used s.after.reliable (held_at s i) f.1 in
    rw (release_places s i) (used_set s.after.places i (free_place (held_at s i)) f.0 used refl)

-- ---- none is next afterwards

none_left : (n : ℕ) (s : Released) → used_in s.after.places ≤ n
    → next_held (release_from n s).after.reliable (release_from n s).after.places ≡ None
unfolding release_from
none_left zero s h = none_used s.after.reliable s.after.places (omega arith)
none_left (suc n) s h =
    by (next_held s.after.reliable s.after.places) refl (λ i e. none_left n (release_at s i) (omega (arith, one_fewer s i e)))
  where
    by : (f : Option ℕ) → next_held s.after.reliable s.after.places ≡ f
        → ((i : ℕ) → next_held s.after.reliable s.after.places ≡ Some i
        → next_held (release_from n (release_at s i)).after.reliable (release_from n (release_at s i)).after.places ≡ None)
        → next_held (release_from (suc n) s).after.reliable (release_from (suc n) s).after.places ≡ None
    by (Some i) e go = rw (one_more_lem n s i e) (go i e)
    by None e go = rw (no_more (suc n) s e) e

pub release_is_done : (r : Record) → length r.places ≡ 4
    → next_held (released r).after.reliable (released r).after.places ≡ None
unfolding released
release_is_done r l = none_left 4 _ (omega (arith, used_within r.places))

-- ---- the places afterwards

module _ (r : Record) where
  abbrev before : ℕ → Place
  before i = place_at r.places i

  -- nothing is released yet
  pub since_start : Since r (record { after = r; order = 0 ∷ 0 ∷ 0 ∷ 0 ∷ []; count = 0; thrown = 0 })
  since_start =
      record {
        places = refl;
        room = refl;
        each = λ i. inl refl;
        ordered = λ k h. absurd (omega arith);
        once = λ j k h g. absurd (omega arith);
        counted = omega arith;
      }

  module _
      (four : length r.places ≡ 4)
      (s : Released)
      (i : ℕ)
      (e : next_held s.after.reliable s.after.places ≡ Some i)
      (h : Since r s)
    where
      is_used : (held_at s i).used ≡ true
      is_used = next_used s.after.reliable (held_at s i) (found_next s i e).1

      -- place i holds what it held in r, since it is used
      pub untouched : held_at s i ≡ before i
      untouched = by (h.each i)
        where
          by : ((held_at s i ≡ before i) ⊎ Freed (before i) (held_at s i)) → held_at s i ≡ before i
          by (inl a) = a
          by (inr f) = absurd (false≢true (sym (ap (λ (p : Place). p.used) f.1) ∙ is_used))

      -- so a place that was freed is another
      another : (j : ℕ) → Freed (before j) (held_at s j) → j ≢ i
      another j f z =
          let free : (held_at s i).used ≡ false = rw z at (ap (λ (p : Place). p.used) f.1) in
          false≢true (sym free ∙ is_used)

      freed_here : Freed (before i) (held_at (release_at s i) i)
      freed_here = (
        ap (λ (p : Place). p.used) (sym untouched) ∙ is_used,
        (rw (release_places s i) (get_or-set_same s.after.places i (free_place (held_at s i)) no_place (found_next s i e).0))
            ∙ ap free_place untouched,
      )

      elsewhere : (j : ℕ) → j ≢ i → held_at (release_at s i) j ≡ held_at s j
      elsewhere j z = rw (release_places s i) (get_or-set_other s.after.places i j (free_place (held_at s i)) no_place z)

      freed_there : (j : ℕ) → Freed (before j) (held_at s j) → Freed (before j) (held_at (release_at s i) j)
      freed_there j f = (f.0, elsewhere j (another j f) ∙ f.1)

      each_after : (j : ℕ) → (held_at (release_at s i) j ≡ before j) ⊎ Freed (before j) (held_at (release_at s i) j)
      each_after j = by (eqb j i) refl
        where
          by : (b : Bool) → eqb j i ≡ b → (held_at (release_at s i) j ≡ before j) ⊎ Freed (before j) (held_at (release_at s i) j)
          by true z = inr (rw (eqb-true j i z) freed_here)
          by false z = rw (elsewhere j (eqb-false j i z)) (h.each j)

      pub count_below : s.count < 4
      count_below = omega (arith, one_fewer s i e, used_within r.places, h.counted)

      -- the order with place i behind it
      abbrev longer : List ℕ
      longer = set s.order s.count i

      last_is : get_or longer s.count 0 ≡ i
      last_is = get_or-set_same s.order s.count i 0 (omega (arith, count_below, h.room))

      earlier_is : (k : ℕ) → k < s.count → get_or longer k 0 ≡ get_or s.order k 0
      earlier_is k l = get_or-set_other s.order s.count k i 0 (λ z. omega arith)

      ordered_more : (k : ℕ) → k < s.count + 1 → Freed (before (get_or longer k 0)) (held_at (release_at s i) (get_or longer k 0))
      ordered_more k l = by (eqb k s.count) refl
        where
          by : (b : Bool) → eqb k s.count ≡ b → Freed (before (get_or longer k 0)) (held_at (release_at s i) (get_or longer k 0))
          by true z = rw (eqb-true k s.count z, last_is) freed_here
          by false z =
              let n : k ≢ s.count = eqb-false k s.count z in
              let earlier : k < s.count = omega arith in
              rw (earlier_is k earlier) (freed_there _ (h.ordered k earlier))

      once_more : (j k : ℕ) → j < k → k < s.count + 1 → get_or longer j 0 ≢ get_or longer k 0
      once_more j k m l = by (eqb k s.count) refl
        where
          by : (b : Bool) → eqb k s.count ≡ b → get_or longer j 0 ≢ get_or longer k 0
          by true z =
              let last : k ≡ s.count = eqb-true k s.count z in
              let earlier : j < s.count = omega arith in
              rw (last, last_is, earlier_is j earlier) (another _ (h.ordered j earlier))
          by false z =
              let n : k ≢ s.count = eqb-false k s.count z in
              let earlier : k < s.count = omega arith in
              rw (earlier_is k earlier, earlier_is j (omega arith)) (h.once j k m earlier)

      places_after : length (release_at s i).after.places ≡ length r.places
      places_after = rw (release_places s i) (length-set s.after.places i (free_place (held_at s i)) ∙ h.places)

      pub since_more : Since r (release_at s i)
      since_more = by (passing s i) (release_is s i)
        where
          by : (b : Bool) → release_at s i ≡ release_by b s i (held_at s i) → Since r (release_at s i)
          by true t =
              let order : (release_at s i).order ≡ longer = ap (λ (u : Released). u.order) t in
              let count : (release_at s i).count ≡ s.count + 1 = ap (λ (u : Released). u.count) t in
              let thrown : (release_at s i).thrown ≡ s.thrown = ap (λ (u : Released). u.thrown) t in
              record {
                places = places_after;
                room = rw order (length-set s.order s.count i ∙ h.room);
                each = each_after;
                ordered = λ k l. rw order (ordered_more k (omega arith));
                once = λ j k m l. rw order (once_more j k m (omega arith));
                counted = omega (arith, one_fewer s i e, h.counted);
              }
          by false t =
              let order : (release_at s i).order ≡ s.order = ap (λ (u : Released). u.order) t in
              let count : (release_at s i).count ≡ s.count = ap (λ (u : Released). u.count) t in
              let thrown : (release_at s i).thrown ≡ s.thrown + 1 = ap (λ (u : Released). u.thrown) t in
              record {
                places = places_after;
                room = rw order h.room;
                each = each_after;
                ordered = λ k l. rw order (freed_there _ (h.ordered k (omega arith)));
                once = λ j k m l. rw order (h.once j k m (omega arith));
                counted = omega (arith, one_fewer s i e, h.counted);
              }

  pub release_frees : length r.places ≡ 4 → Since r (released r)
  unfolding released
  release_frees four = along (Since r) (since_more four) 4 _ since_start
