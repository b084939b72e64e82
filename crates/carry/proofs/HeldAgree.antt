-- A step looks at the held octets only in the used places of its record: on octets that agree there it delivers the same, and leaves octets
-- that agree there again. Assumes nothing.
use Prim.Native.Nat.{ℕ, suc, ◌<◌, ◌≤◌}
use mathlib.Core.Bool.{true, false≢true}
use mathlib.Core.List.{List, [], ◌∷◌, ◌++◌}
use mathlib.Core.Logic.{◌≢◌, ◌⊎◌, inl, inr}
use mathlib.Core.Path.{◌≡◌, refl, sym, ap, ◌∙◌}
use native.Mathlib.Omega.{arith}
use lib.ListN.{length, get_or, take}
use Rattle.octets.specs.Octets.{part}
use Rattle.octets.proofs.Writes.{part_splice}
use Rattle.record.specs.Places.{place_at}
use Rattle.record.specs.WellFormed.{most_contents, well_formed}
use Rattle.record.specs.declared.Place.{Place}
use Rattle.record.specs.declared.Record.{Record}
use Rattle.record.proofs.Formed.{formed}
use Rattle.wrapper.specs.Judge.{heard}
use Rattle.wrapper.specs.Hold.{placed}
use Rattle.wrapper.specs.Taken.{taken}
use Rattle.wrapper.specs.Since.{Freed}
use Rattle.wrapper.specs.declared.Arrived.{Arrived}
use Rattle.wrapper.specs.declared.Fate.TheVariants.{Held}
use Rattle.carry.specs.Carried.{place_begins, held_after, Delivered, at_once, from_places, delivered_by}
use Rattle.carry.proofs.Carrying.{place_ends}
use Rattle.carry.proofs.PlanFits.{Kept, Taking, taking}
use Rattle.carry.proofs.DeliveredLength.{of_first}
use Rattle.carry.proofs.OwnPlaces.{other_place}

-- the held octets h and g agree in place j of record i, as far as its contents go
abbrev pub AgreeAt : ℕ → List Place → List ℕ → List ℕ → ℕ → Type 0
AgreeAt i ps h g j = part h (place_begins i j) (place_at ps j).len ≡ part g (place_begins i j) (place_at ps j).len

-- they agree in the used places of record i
abbrev pub Agree : ℕ → List Place → List ℕ → List ℕ → Type 0
Agree i ps h g = (j : ℕ) → (place_at ps j).used ≡ true → AgreeAt i ps h g j

from_agree : (h g : List ℕ) (i : ℕ) (ps : List Place) (order : List ℕ)
    → ((k : ℕ) → k < length order → AgreeAt i ps h g (get_or order k 0))
    → from_places h i ps order ≡ from_places g i ps order
from_agree h g i ps [] same = refl
from_agree h g i ps (j ∷ order) same =
    rw (same 0 (omega arith), from_agree h g i ps order (λ k l. same (suc k) (omega arith)))

module _
    (r : Record)
    (w : Arrived)
    (used : r.used ≡ true)
    (well : well_formed r ≡ true)
    (four : length r.places ≡ 4)
    (c : List ℕ)
    (said : w.len ≡ length c)
    (most : length c ≤ most_contents)
    (i : ℕ)
    (hi : i < 8)
    (h g : List ℕ)
    (room-h : length h ≡ 46528)
    (room-g : length g ≡ 46528)
    (agree : Agree i r.places h g)
  where
    abbrev after : List ℕ → List ℕ
    after s = held_after i (taken r w).fate c s

    abbrev held : List Place
    held = (placed (heard r w.reliable) w).after.places

    t : Taking r w held (taken r w)
    t = taking r w four

    -- what was written into a place is there
    written : (s : List ℕ) → length s ≡ 46528 → (j n : ℕ) → n ≡ length c → (taken r w).fate ≡ Held j → part (after s) (place_begins i j) n ≡ c
    written s l j n m e =
        rw (m, e) (part_splice s (place_begins i j) c (omega (arith, place_ends i j (length c) hi (t.below j e) most)))

    -- a place that the wrapper is not held in is as it was
    stays : (s : List ℕ) → length s ≡ 46528 → (j n : ℕ) → n ≤ most_contents → (taken r w).fate ≢ Held j
        → part (after s) (place_begins i j) n ≡ part s (place_begins i j) n
    stays s l j n m z =
        other_place i (taken r w).fate c s hi t.below most l i j n m
        (λ k e q.
        let same : j ≡ k = omega arith in
        z (rw same e))

    -- so in the places that are used after step 3 the octets agree
    kept_agree : (j : ℕ) → (place_at held j).used ≡ true → AgreeAt i held (after h) (after g) j
    kept_agree j u = by (t.kept j u)
      where
        by : Kept r w (taken r w).fate held j → AgreeAt i held (after h) (after g) j
        by (inl a) = rw a.1 (written h room-h j w.len said a.0 ∙ sym (written g room-g j w.len said a.0))
        by (inr a) =
            let v = rw a.1 at u in
            let m = ((formed r well used).held j v).contents in
            rw a.1 (stays h room-h j _ m a.0 ∙ agree j v ∙ sym (stays g room-g j _ m a.0))

    pub held_agree : delivered_by h i w c (taken r w) ≡ delivered_by g i w c (taken r w)
    unfolding delivered_by
    held_agree =
        ap (λ (ds : List Delivered). at_once (taken r w).fate w c ++ ds)
        (from_agree (after h) (after g) i (taken r w).after.places (take (taken r w).count (taken r w).order)
        (of_first (AgreeAt i (taken r w).after.places (after h) (after g)) (taken r w).count (taken r w).order
        (λ k l.
        let f = t.ordered k l in
        rw f.1 (kept_agree (get_or (taken r w).order k 0) f.0))))

    -- and they agree in those that are used after the step
    pub agree_after : Agree i (taken r w).after.places (after h) (after g)
    agree_after j u = by (t.each j)
      where
        by : (place_at (taken r w).after.places j ≡ place_at held j)
            ⊎ Freed (place_at held j) (place_at (taken r w).after.places j)
            → AgreeAt i (taken r w).after.places (after h) (after g) j
        by (inl e) = rw e (kept_agree j (rw e at u))
        by (inr f) = absurd (false≢true (rw f.1 at u))
