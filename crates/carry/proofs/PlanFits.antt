-- Every plan of a well-formed record can be carried out: the places that it names are of the record's four, and what it delivers from them
-- fits a cell. And what steps 3 to 6 make of the places, which the laws on held octets go by. Assumes nothing.
use Prim.{Unit}
use Prim.Native.Nat.{ℕ, ◌<◌, ◌≤◌}
use mathlib.Core.Bool.{Bool, true, false, cond, not, ◌&&◌}
use mathlib.Core.List.{List}
use mathlib.Core.Logic.{◌≢◌, ◌⊎◌, inl, inr}
use mathlib.Core.Path.{◌≡◌, refl, ap, ◌∙◌}
use native.Mathlib.Omega.{arith}
use lib.ListN.{length, get_or, set, length-set}
use Rattle.std.specs.Prelude.{Option, Some, None, Result, Ok, Err}
use Rattle.refusal.specs.declared.Refusal.{Refusal}
use Rattle.record.specs.Places.{no_place, place_at}
use Rattle.record.specs.WellFormed.{most_contents, closed, well_formed}
use Rattle.record.specs.With.{with_numbers, with_gap, with_acked}
use Rattle.record.specs.declared.Gap.TheVariants as gap
use Rattle.record.specs.declared.Place.{Place}
use Rattle.record.specs.declared.Record.{Record}
use Rattle.record.proofs.Choices.{either, never}
use Rattle.std.proofs.lemmas.List.Quantifiers.{position-Some}
use Rattle.record.proofs.Stored.{Stored, used_below, used_stored}
use Rattle.record.proofs.Formed.{formed}
use Rattle.gap.specs.Standoff.{standoff_of}
use Rattle.wrapper.specs.Judge.{judged, heard}
use Rattle.wrapper.specs.Hold.{next_one, holds, is_free, lowest_free, place_for, held_as, put_in, placed}
use Rattle.wrapper.specs.Release.{release_at, released}
use Rattle.wrapper.specs.Settle.{lost, begun, gapped, asked, spared, acknowledged, settled_by, settled}
use Rattle.wrapper.specs.Taken.{taken, stepped_by, stepped}
use Rattle.wrapper.specs.Since.{Freed, Since}
use Rattle.wrapper.specs.declared.Arrived.{Arrived}
use Rattle.wrapper.specs.declared.Fate.{Fate}
use Rattle.wrapper.specs.declared.Fate.TheVariants.{Delivered, Held}
use Rattle.wrapper.specs.declared.Placed.{Placed}
use Rattle.wrapper.specs.declared.Plan.{Plan}
use Rattle.wrapper.specs.declared.Reply.TheVariants as reply
use Rattle.wrapper.specs.declared.Settled.{Settled}
use Rattle.wrapper.proofs.Releasing.{release_counts, along}
use Rattle.wrapper.proofs.ReleaseIsDone.{since_start, since_more, count_below}
use Rattle.carry.specs.Fits.{Fits}

-- ---- step 3

place_below : (w : Arrived) (ps : List Place) (i : ℕ) → place_for w ps ≡ Some i → i < length ps
unfolding place_for lowest_free
place_below w ps i e = by w.reliably (holds w.reliable ps) e
  where
    by : (s h : Bool) → cond s (cond h None (lowest_free ps)) None ≡ Some i → i < length ps
    by true true q = never (cc)
    by true false q = (position-Some is_free ps i no_place q).0
    by false h q = never (cc)

-- a place that is used after step 3: the wrapper is held in it, or it is as it was and the wrapper is not held in it
abbrev pub Kept : Record → Arrived → Fate → List Place → ℕ → Type 0
Kept r w f ps j = ((f ≡ Held j) × (place_at ps j ≡ held_as w)) ⊎ ((f ≢ Held j) × (place_at ps j ≡ place_at r.places j))

-- what step 3 leaves: as many places, the wrapper held in one of them if anywhere, and all else as it was
pub record Placing (r : Record) (w : Arrived) (p : Placed) : Type 0 where
  pub places : length p.after.places ≡ length r.places
  pub below : (j : ℕ) → p.fate ≡ Held j → j < length r.places
  pub kept : (j : ℕ) → (place_at p.after.places j).used ≡ true → Kept r w p.fate p.after.places j

module _ (r : Record) (w : Arrived) where
  next_placing : Placing r w (record { after = with_numbers r w.total w.reliable; fate = Delivered })
  next_placing = record { places = refl; below = λ j e. never (cc); kept = λ j u. inr (λ e. never (cc), refl) }

  put_placing : (f : Option ℕ) → place_for w r.places ≡ f → Placing r w (put_in r w f)
  put_placing (Some i) e =
      record {
        places = length-set r.places i (held_as w);
        below = λ j g.
            let same : i ≡ j = cc in
            omega (arith, place_below w r.places i e);
        kept = λ j u. by j (used_stored r.places i (held_as w) j u);
      }
    where
      by : (j : ℕ) → Stored no_place r.places i (held_as w) j → Kept r w (Held i) (set r.places i (held_as w)) j
      by j (inl a) = inl (ap Held a.0, a.1)
      by j (inr a) = inr (λ e. a.0 (cc), a.1)
  put_placing None e = record { places = refl; below = λ j g. never (cc); kept = λ j u. inr (λ g. never (cc), refl) }

  pub placing : Placing r w (placed r w)
  unfolding placed
  placing =
      either (Placing r w)
      (next_one r w)
      (record { after = with_numbers r w.total w.reliable; fate = Delivered })
      (put_in r w (place_for w r.places))
      next_placing
      (put_placing (place_for w r.places) refl)

-- ---- step 4

-- no more are delivered than there are places
pub released_since : (r : Record) → length r.places ≡ 4 → Since r (released r) × ((released r).count ≤ 4)
unfolding released
released_since r four =
    along
    (λ s. Since r s × (s.count ≤ 4))
    (λ s i e h.
    let few = count_below r four s i e h.0 in
    (since_more r four s i e h.0, omega (arith, release_counts s (release_at s i) i refl)))
    4
    _
    (since_start r, omega arith)

-- ---- steps 5 and 6 let the places stand

acknowledged_places : (r : Record) (w : Arrived) → (acknowledged r w).after.places ≡ r.places
unfolding acknowledged
acknowledged_places r w =
    either (λ (s : Settled). s.after.places ≡ r.places)
    (asked r w && not (spared r w))
    (record { after = with_acked r r.reliable; reply = reply.Ack r.reliable })
    (record { after = r; reply = reply.Nothing })
    refl
    refl

pub settled_places : (r : Record) (w : Arrived) → (settled r w).after.places ≡ r.places
unfolding settled gapped
settled_places r w =
    either Stand (closed r) (Some (with_gap r gap.Quiet)) _
    (acknowledged_places _ w)
    (either Stand (lost r w.oldest) None (Some (with_gap r (begun r.gap (standoff_of r)))) refl (acknowledged_places _ w))
  where
    Stand : Option Record → Type 0
    Stand g = (settled_by g r w).after.places ≡ r.places

-- ---- the whole step

-- what steps 2 to 6 make of the places of r by way of `held`, the places after step 3
pub record Taking (r : Record) (w : Arrived) (held : List Place) (p : Plan) : Type 0 where
  pub few : p.count ≤ 4
  pub below : (j : ℕ) → p.fate ≡ Held j → j < 4
  pub four : length held ≡ 4
  pub kept : (j : ℕ) → (place_at held j).used ≡ true → Kept r w p.fate held j
  pub ordered : (k : ℕ) → k < p.count → Freed (place_at held (get_or p.order k 0)) (place_at p.after.places (get_or p.order k 0))
  pub each : (j : ℕ) → (place_at p.after.places j ≡ place_at held j) ⊎ Freed (place_at held j) (place_at p.after.places j)

pub taking : (r : Record) (w : Arrived) → length r.places ≡ 4
    → Taking r w (placed (heard r w.reliable) w).after.places (taken r w)
unfolding taken heard
taking r w four =
    let h = heard r w.reliable in
    let p = placed h w in
    let c = placing h w in
    let s = released_since p.after (c.places ∙ four) in
    let stand = settled_places (released p.after).after w in
    record {
      few = s.1;
      below = λ j e. omega (arith, c.below j e);
      four = c.places ∙ four;
      kept = c.kept;
      ordered = λ k l. rw stand (s.0.ordered k l);
      each = λ j. rw stand (s.0.each j);
    }

-- a place that is used after step 3 holds contents that fit
used_fits : (r : Record) (w : Arrived) → r.used ≡ true → well_formed r ≡ true → w.len ≤ most_contents → (f : Fate) (ps : List Place) (j : ℕ)
    → (place_at ps j).used ≡ true → Kept r w f ps j → (place_at ps j).len ≤ most_contents
used_fits r w used well fits f ps j u (inl a) = rw a.1 fits
used_fits r w used well fits f ps j u (inr a) = rw a.1 ((formed r well used).held j (rw a.1 at u)).contents

pub plan_fits : (r : Record) (w : Arrived) → r.used ≡ true → well_formed r ≡ true → length r.places ≡ 4 → w.len ≤ most_contents
    → Fits (taken r w)
plan_fits r w used well four fits =
    let held = (placed (heard r w.reliable) w).after.places in
    let t = taking r w four in
    record {
      count = t.few;
      place = t.below;
      order = λ k l. omega (arith, used_below held (get_or (taken r w).order k 0) (t.ordered k l).0, t.four);
      contents = λ k l.
          let f = t.ordered k l in
          let j = get_or (taken r w).order k 0 in
          rw f.1 (used_fits r w used well fits (taken r w).fate held j f.0 (t.kept j f.0));
    }

-- a step that is not refused is steps 2 to 6
pub stepped_taken : (r : Record) (w : Arrived) (p : Plan) → stepped r w ≡ Ok p → p ≡ taken r w
unfolding stepped
stepped_taken r w p e = by (judged r w.reliably w.total w.reliable) e
  where
    by : (j : Result (Unit {0}) Refusal) → stepped_by j r w ≡ Ok p → p ≡ taken r w
    by (Err x) q = never (cc)
    by (Ok x) q = cc

pub stepped_fits : (r : Record) (w : Arrived) → r.used ≡ true → well_formed r ≡ true → length r.places ≡ 4 → w.len ≤ most_contents
    → (p : Plan) → stepped r w ≡ Ok p → Fits p
stepped_fits r w used well four fits p e = rw (stepped_taken r w p e) (plan_fits r w used well four fits)
