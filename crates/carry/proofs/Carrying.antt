-- What the functions of `carry` come to, over plain variables: the leaves of a fate, where places end, and the turns of the
-- deliveries from held places. Assumes nothing.
use Prim.Native.Nat.{ℕ, ◌+◌, ◌-◌, ◌<◌, ◌≤◌}
use mathlib.Core.List.{List, [], ◌∷◌}
use mathlib.Core.Path.{◌≡◌, sym, ◌∙◌}
use native.Mathlib.Numerals.{add-one}
use native.Mathlib.Omega.{arith}
use Rattle.std.specs.Prelude.{slice_range}
use lib.ListN.{length, get_or, take, drop, drop_of_length-le}
use lib.Seq.{drop-cons}
use Rattle.record.specs.Places.{place_at}
use Rattle.record.specs.WellFormed.{most_contents}
use Rattle.record.specs.declared.Place.{Place}
use Rattle.wrapper.specs.declared.Arrived.{Arrived}
use Rattle.wrapper.specs.declared.Fate.{Fate}
use Rattle.wrapper.specs.declared.Fate.TheVariants.{Delivered, Held, Dropped}
use Rattle.wrapper.specs.declared.Plan.{Plan}
use Rattle.carry.specs.Carried as carried
use Rattle.carry.specs.Carried.{place_begins, held_after, at_once, from_place, from_places, delivered_by, deliver_from, no_deliveries, one_more, listed}
use Rattle.carry.specs.declared.Deliveries.{Deliveries}
use Rattle.carry.proofs.Appended.{listed_append, listed_count, deliver_append}

-- ---- where a place ends

pub place_ends : (i j n : ℕ) → i < 8 → j < 4 → n ≤ most_contents → place_begins i j + n ≤ 46528
unfolding place_begins
place_ends i j n hi hj hn = omega arith

-- ---- what is left to deliver after k turns

module _ (held : List ℕ) (i : ℕ) (ps : List Place) (order : List ℕ) where
  abbrev pub left : ℕ → List carried.Delivered
  left k = from_places held i ps (drop k order)

  -- the wrapper of place j, and the same with its contents read from where they begin
  abbrev pub this : ℕ → carried.Delivered
  this j = from_place held i j (place_at ps j)

  pub this_is : (j begin : ℕ) → begin ≡ place_begins i j
      → ◌≡◌ {A = carried.Delivered}
      (record { delivery = (this j).delivery; contents = slice_range held begin (begin + (place_at ps j).len) })
      (this j)
  this_is j begin e =
      let long : begin + (place_at ps j).len - begin ≡ (place_at ps j).len = omega arith in
      rw (long, e)

  module _ (k : ℕ) (h : k < length order) where
    left_more : left k ≡ this (get_or order k 0) ∷ left (k + 1)
    left_more = rw (drop-cons order k 0 h, add-one k)

    -- one turn leaves the answer and the room that are reached in the end
    pub listed_turn : (d after : Deliveries) → after ≡ one_more d (this (get_or order k 0)) → listed after (left (k + 1)) ≡ listed d (left k)
    unfolding listed
    listed_turn d after f = rw (left_more, f)

    pub written_turn : (m : ℕ) (room after : List ℕ) → after ≡ deliver_from m (this (get_or order k 0) ∷ []) room
        → deliver_from (m + 1) (left (k + 1)) after ≡ deliver_from m (left k) room
    unfolding deliver_from
    written_turn m room after f = rw (left_more, f)

  pub left_none : (k : ℕ) → length order ≤ k → left k ≡ []
  left_none k h = rw (drop_of_length-le order h)

-- ---- the whole plan

pub at_once_most : (f : Fate) (w : Arrived) (c : List ℕ) → length (at_once f w c) ≤ 1
at_once_most Delivered w c = omega arith
at_once_most (Held j) w c = omega arith
at_once_most Dropped w c = omega arith

module _ (w : Arrived) (c : List ℕ) (p : Plan) (first : Deliveries) (e : first ≡ listed no_deliveries (at_once p.fate w c)) where
  first_count : first.count ≡ 0 + length (at_once p.fate w c)
  first_count = rw e (listed_count no_deliveries (at_once p.fate w c))

  -- at most the wrapper itself is delivered at once
  pub first_most : first.count ≤ 1
  first_most = omega (arith, first_count, at_once_most p.fate w c)

  module _ (i : ℕ) (held stored : List ℕ) (g : stored ≡ held_after i p.fate c held) where
    abbrev released : List ℕ → List carried.Delivered
    released octets = from_places octets i p.after.places (take p.count p.order)

    pub all_listed : (d : Deliveries) → d ≡ listed first (released stored) → d ≡ listed no_deliveries (delivered_by held i w c p)
    unfolding delivered_by
    all_listed d h =
        h ∙ (rw (e, g) (sym (listed_append no_deliveries (at_once p.fate w c) (released (held_after i p.fate c held)))))

    pub all_written : (room after last : List ℕ) → after ≡ deliver_from 0 (at_once p.fate w c) room
        → last ≡ deliver_from first.count (released stored) after → last ≡ deliver_from 0 (delivered_by held i w c p) room
    unfolding delivered_by
    all_written room after last a b =
        b
        ∙ (rw (first_count, g, a)
        (sym (deliver_append 0 (at_once p.fate w c) (released (held_after i p.fate c held)) room)))
