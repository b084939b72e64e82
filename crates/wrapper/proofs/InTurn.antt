-- What one step delivers is in turn: each reliable wrapper is at distance 1 from R as it is then and an unreliable one at distance 0, each
-- total number lies ahead of T as it is then, and T and R afterwards are the numbers of the last one. Assumes nothing.
use Prim.{Unit}
use Prim.Native.Nat.{ℕ, zero, suc, ◌<◌}
use mathlib.Core.Bool.{Bool, true, false, cond, not, ◌&&◌, and-eq-true_iff, false≢true}
use mathlib.Core.List.{List, [], ◌∷◌, ◌++◌, map, map-append, append_assoc, append-nil}
use mathlib.Core.Path.{◌≡◌, refl, sym, ap, ◌∙◌}
use native.Mathlib.Numerals.{add-one}
use native.Mathlib.Omega.{arith}
use lib.IntN.{ℤ, pos, negsuc}
use lib.ListN.{length, take, length-set}
use lib.Seq.{take-suc-set}
use lib.Signed.{le_z}
use borrow.Author.Tests.{eqb-true, le-leb}
use Rattle.std.specs.Prelude.{Option, Some, None, Result, Ok, Err, is_ok}
use Rattle.counter.specs.Distance.{distance}
use Rattle.counter.specs.declared.Total.{Total}
use Rattle.counter.specs.declared.Reliable.{Reliable}
use Rattle.record.specs.WellFormed.{closed}
use Rattle.record.specs.With.{with_numbers, with_acked, with_gap}
use Rattle.record.specs.declared.Gap.TheVariants as gap
use Rattle.record.specs.declared.Record.{Record}
use Rattle.record.proofs.Choices.{either}
use Rattle.gap.specs.Standoff.{standoff_of}
use Rattle.refusal.specs.declared.Refusal.{Refusal}
use Rattle.refusal.specs.declared.Refusal.TheVariants.{Old, Inconsistent}
use Rattle.wrapper.specs.Judge.{consistent, judged_by, judged, heard}
use Rattle.wrapper.specs.Hold.{is, next_one, place_for, held_as, put_in, placed}
use Rattle.wrapper.specs.Release.{next_held, release_by, release_at, released}
use Rattle.wrapper.specs.Settle.{lost, begun, gapped, asked, spared, acknowledged, settled_by, settled}
use Rattle.wrapper.specs.Taken.{taken}
use Rattle.wrapper.specs.Since.{Since}
use Rattle.wrapper.specs.InTurn.{Delivery, itself, held_in, deliveries, InTurnTo}
use Rattle.wrapper.specs.declared.Arrived.{Arrived}
use Rattle.wrapper.specs.declared.Fate.TheVariants as fate
use Rattle.wrapper.specs.declared.Placed.{Placed}
use Rattle.wrapper.specs.declared.Released.{Released}
use Rattle.wrapper.specs.declared.Reply.TheVariants as reply
use Rattle.wrapper.specs.declared.Settled.{Settled}
use Rattle.wrapper.proofs.Releasing.{held_at, passing, release_is, along}
use Rattle.wrapper.proofs.ReleaseIsDone.{since_start, since_more, untouched, count_below, found_next}

-- ---- deliveries

-- one more in turn behind the others
one_more_in_turn : (t : Total) (n : Reliable) (ds : List Delivery) (u : Total) (m : Reliable) (d : Delivery) → InTurnTo t n ds u m
    → distance m.0 d.reliable.0 ≡ pos (cond d.reliably 1 0) → le_z (pos 1) (distance u.0 d.total.0) ≡ true
    → InTurnTo t n (ds ++ (d ∷ [])) d.total d.reliable
one_more_in_turn t n [] u m d c e f = (rw c.1 e, rw c.0 f, (refl, refl))
one_more_in_turn t n (b ∷ ds) u m d c e f = (c.0, c.1, one_more_in_turn b.total b.reliable ds u m d c.2 e f)

-- ---- what the tests say

pub is_number : (n : ℕ) (z : ℤ) → is n z ≡ true → z ≡ pos n
is_number n (pos m) e = ap pos (eqb-true m n e)
is_number n (negsuc m) e = absurd (false≢true e)

above_zero : (z : ℤ) → le_z z (pos 0) ≡ false → le_z (pos 1) z ≡ true
above_zero (pos zero) e = absurd (false≢true (sym e))
above_zero (pos (suc n)) e = le-leb 1 (suc n) (omega arith)
above_zero (negsuc n) e = absurd (false≢true (sym e))

-- a fresh wrapper's total number lies ahead of T
fresh_ahead : (s : Bool) (d e : ℤ) → judged_by s d e ≡ Ok tt → le_z (pos 1) d ≡ true
unfolding judged_by
fresh_ahead s d e j = by (le_z d (pos 0)) (consistent s d e) refl j
  where
    by : (o c : Bool) → le_z d (pos 0) ≡ o → cond o (Err Old) (cond c (Ok (tt {0})) (Err Inconsistent)) ≡ Ok (tt {0}) → le_z (pos 1) d ≡ true
    by true c p q =
        let z : ◌≡◌ {A = ℕ} 0 1 = cc in
        absurd (omega arith)
    by false c p q = above_zero d p

fresh_total : (r : Record) (s : Bool) (t : Total) (n : Reliable) → judged r s t n ≡ Ok tt
    → le_z (pos 1) (distance r.total.0 t.0) ≡ true
unfolding judged
fresh_total r s t n j = fresh_ahead s _ (distance r.reliable.0 n.0) j

ok_passes : (j : Result (Unit {0}) Refusal) → is_ok j ≡ true → j ≡ Ok tt
ok_passes (Ok x) e = refl
ok_passes (Err x) e = absurd (false≢true e)

-- ---- step 3

module _ (r : Record) (w : Arrived) where
  placed_in_turn : le_z (pos 1) (distance r.total.0 w.total.0) ≡ true
      → InTurnTo r.total r.reliable (itself (placed r w).fate w) (placed r w).after.total (placed r w).after.reliable
  unfolding placed next_one
  placed_in_turn f = by (next_one r w) refl (place_for w r.places)
    where
      delivered : Placed
      delivered = record { after = with_numbers r w.total w.reliable; fate = fate.Delivered }

      by : (b : Bool) → is (cond w.reliably 1 0) (distance r.reliable.0 w.reliable.0) ≡ b → (g : Option ℕ)
          → InTurnTo r.total r.reliable (itself (cond b delivered (put_in r w g)).fate w) (cond b delivered (put_in r w g)).after.total
          (cond b delivered (put_in r w g)).after.reliable
      by true e g = (is_number (cond w.reliably 1 0) (distance r.reliable.0 w.reliable.0) e, f, (refl, refl))
      by false e (Some i) = (refl, refl)
      by false e None = (refl, refl)

-- ---- step 4

module _ (r : Record) (four : length r.places ≡ 4) (t : Total) (n : Reliable) (ds : List Delivery) where
  abbrev so_far : Released → List Delivery
  so_far s = ds ++ map (held_in r.places) (take s.count s.order)

  abbrev SoFar : Released → Type 0
  SoFar s = InTurnTo t n (so_far s) s.after.total s.after.reliable

  module _
      (s : Released)
      (i : ℕ)
      (e : next_held s.after.reliable s.after.places ≡ Some i)
      (since : Since r s)
      (c : SoFar s)
    where
      next_to : distance s.after.reliable.0 (held_at s i).reliable.0 ≡ pos 1
      next_to = is_number 1 _ ((and-eq-true_iff (held_at s i).used _).0 (found_next s i e).1).1

      delivered_more : passing s i ≡ true → SoFar (release_by true s i (held_at s i))
      delivered_more p =
          let room : s.count < length s.order = omega (arith, count_below r four s i e since, since.room) in
          let passed = ok_passes (judged s.after true (held_at s i).total (held_at s i).reliable) p in
          rw
          (add-one s.count, take-suc-set s.order s.count i room, map-append (held_in r.places) (take s.count s.order) (i ∷ []))
          (rw (← append_assoc, ← untouched r four s i e since)
          (one_more_in_turn t n (so_far s) s.after.total s.after.reliable
          (record { reliably = true; total = (held_at s i).total; reliable = (held_at s i).reliable })
          c
          next_to
          (fresh_total s.after true (held_at s i).total (held_at s i).reliable passed)))

      in_turn_by : (b : Bool) → passing s i ≡ b → SoFar (release_by b s i (held_at s i))
      in_turn_by true p = delivered_more p
      in_turn_by false p = c

  in_turn_more : (s : Released) (i : ℕ) → next_held s.after.reliable s.after.places ≡ Some i → Since r s × SoFar s
      → Since r (release_at s i) × SoFar (release_at s i)
  in_turn_more s i e h = (since_more r four s i e h.0, rw (release_is s i) (in_turn_by s i e h.0 h.1 (passing s i) refl))

  pub released_in_turn : InTurnTo t n ds r.total r.reliable → SoFar (released r)
  unfolding released
  released_in_turn h = (along (λ s. Since r s × SoFar s) in_turn_more 4 _ (since_start r, rw (append-nil ds) h)).1

-- ---- steps 5 and 6 let T and R stand

abbrev Numbers : Record → Record → Type 0
Numbers r s = (s.total ≡ r.total) × (s.reliable ≡ r.reliable)

acknowledged_numbers : (r : Record) (w : Arrived) → Numbers r (acknowledged r w).after
unfolding acknowledged
acknowledged_numbers r w =
    either (λ (s : Settled). Numbers r s.after)
    (asked r w && not (spared r w))
    (record { after = with_acked r r.reliable; reply = reply.Ack r.reliable })
    (record { after = r; reply = reply.Nothing })
    (refl, refl)
    (refl, refl)

settled_numbers : (r : Record) (w : Arrived) → Numbers r (settled r w).after
unfolding settled gapped
settled_numbers r w =
    either Stand (closed r) (Some (with_gap r gap.Quiet)) _
    (acknowledged_numbers _ w)
    (either Stand (lost r w.oldest) None (Some (with_gap r (begun r.gap (standoff_of r)))) (refl, refl) (acknowledged_numbers _ w))
  where
    Stand : Option Record → Type 0
    Stand g = Numbers r (settled_by g r w).after

-- ---- the whole step

as_many_places : (r : Record) (w : Arrived) → length (placed r w).after.places ≡ length r.places
unfolding placed
as_many_places r w =
    either (λ (p : Placed). length p.after.places ≡ length r.places)
    (next_one r w)
    (record { after = with_numbers r w.total w.reliable; fate = fate.Delivered })
    (put_in r w (place_for w r.places))
    refl
    (by (place_for w r.places))
  where
    by : (f : Option ℕ) → length (put_in r w f).after.places ≡ length r.places
    by (Some i) = length-set r.places i (held_as w)
    by None = refl

pub in_turn : (r : Record) (w : Arrived) → length r.places ≡ 4 → judged r w.reliably w.total w.reliable ≡ Ok tt
    → InTurnTo r.total r.reliable (deliveries r w) (taken r w).after.total (taken r w).after.reliable
unfolding taken heard
in_turn r w four fresh =
    let h = heard r w.reliable in
    let p = placed h w in
    let stand = settled_numbers (released p.after).after w in
    rw (stand.0, stand.1)
    (released_in_turn p.after (as_many_places h w ∙ four) r.total r.reliable (itself p.fate w)
    (placed_in_turn h w (fresh_total r w.reliably w.total w.reliable fresh)))
