-- The numbers of a record's counters keep to 32 bits (`Sound`) whatever happens to the record: a wrapper's step (`taken_sound`), time
-- (`elapsed_sound`), its end (`aside`) and a Join (`made_sound`). Assumes that the numbers which a wrapper or a Join brings have 32 bits.
use Prim.Native.Nat.{ℕ, zero, suc, ◌<◌}
use mathlib.Core.Bool.{Bool, true, false, not, ◌&&◌}
use mathlib.Core.List.{List, [], ◌∷◌, map}
use mathlib.Core.Path.{◌≡◌, ◌∙◌}
use lib.ListN.{length, set, length-set, length-map}
use lib.Signed.{lt_z}
use Rattle.std.specs.Prelude.{Option, Some, None}
use Rattle.counter.specs.Distance.{turn, distance}
use Rattle.counter.specs.declared.Total.{Total}
use Rattle.counter.specs.declared.Reliable.{Reliable}
use Rattle.message.specs.declared.Cid.{Cid}
use Rattle.message.specs.declared.Join.{Join}
use Rattle.message.specs.declared.Parameters.{Parameters}
use Rattle.record.proofs.Choices.{either}
use Rattle.record.specs.WellFormed.{closed}
use Rattle.record.specs.With.{free_place, with_numbers, with_known, with_acked, with_places}
use Rattle.record.specs.declared.Gap.{Gap}
use Rattle.record.specs.declared.Place.{Place}
use Rattle.record.specs.declared.Terms.{Terms}
use Rattle.record.specs.declared.Record.{Record}
use Rattle.record.specs.Places.{place_at}
use Rattle.gap.specs.Elapsed.{elapsed_of}
use Rattle.gap.specs.declared.Elapsed.{Elapsed}
use Rattle.gap.proofs.Moves.{Move, stands, expires, lost, goes_on, moves}
use Rattle.joining.specs.Joining.{new_record}
use Rattle.wrapper.specs.Judge.{farther, heard}
use Rattle.wrapper.specs.Hold.{next_one, place_for, held_as, put_in, placed}
use Rattle.wrapper.specs.Release.{without, release_by, release_at, released}
use Rattle.wrapper.specs.Settle.{lost as isLost, gapped, asked, spared, acknowledged, settled_by, settled}
use Rattle.wrapper.specs.Taken.{taken}
use Rattle.wrapper.specs.declared.Arrived.{Arrived}
use Rattle.wrapper.specs.declared.Placed.{Placed}
use Rattle.wrapper.specs.declared.Released.{Released}
use Rattle.wrapper.specs.declared.Settled.{Settled}
use Rattle.wrapper.proofs.Releasing.{along, release_is, passing, held_at}
use Rattle.demands.specs.Calls.{Sound, Both}

-- ---- places

abbrev Counted : List Place → Type 0
Counted ps = (j : ℕ) → Both (place_at ps j).total (place_at ps j).reliable

set_counted : (ps : List Place) (i : ℕ) (q : Place) → Counted ps → Both q.total q.reliable → Counted (set ps i q)
set_counted [] i q c b j = c j
set_counted (p ∷ ps) zero q c b zero = b
set_counted (p ∷ ps) zero q c b (suc j) = c (suc j)
set_counted (p ∷ ps) (suc i) q c b zero = c zero
set_counted (p ∷ ps) (suc i) q c b (suc j) = set_counted ps i q (λ k. c (suc k)) b j

free_counted : (ps : List Place) → Counted ps → Counted (map free_place ps)
free_counted [] c j = c j
free_counted (p ∷ ps) c zero = c zero
free_counted (p ∷ ps) c (suc j) = free_counted ps (λ k. c (suc k)) j

-- ---- a record with one part changed

pub sound_by : {r : Record} → length r.places ≡ 4 → Both r.total r.reliable → r.known.0 < turn → r.acked.0 < turn → Counted r.places
    → Sound r
sound_by four b k a c =
    record { four = four; total = b.0; reliable = b.1; known = k; acked = a; held = λ j. (c j).1; held_total = λ j. (c j).0 }

module _ {r : Record} (s : Sound r) where
  abbrev numbers : Both r.total r.reliable
  numbers = (s.total, s.reliable)

  counted : Counted r.places
  counted j = (s.held_total j, s.held j)

  with_numbers_lem : (t : Total) (n : Reliable) → Both t n → Sound (with_numbers r t n)
  with_numbers_lem t n b = sound_by s.four b s.known s.acked counted

  with_known_lem : (k : Reliable) → k.0 < turn → Sound (with_known r k)
  with_known_lem k h = sound_by s.four numbers h s.acked counted

  with_acked_lem : (a : Reliable) → a.0 < turn → Sound (with_acked r a)
  with_acked_lem a h = sound_by s.four numbers s.known h counted

  with_place : (i : ℕ) (q : Place) → Both q.total q.reliable → Sound (with_places r (set r.places i q))
  with_place i q b =
      sound_by (length-set r.places i q ∙ s.four) numbers s.known s.acked (set_counted r.places i q counted b)

  -- of the rest nothing is asked
  pub aside : (u : Bool) (t : Terms) (n : ℕ) (g : Gap)
      → Sound
      (record {
        used = u;
        terms = t;
        total = r.total;
        reliable = r.reliable;
        known = r.known;
        acked = r.acked;
        idle = n;
        gap = g;
        places = r.places;
      })
  aside u t n g = sound_by s.four numbers s.known s.acked counted

-- ---- a wrapper's step

heard_sound : {r : Record} (n : Reliable) → Sound r → n.0 < turn → Sound (heard r n)
unfolding heard farther
heard_sound {r} n s h =
    with_known_lem (aside s r.used r.terms 0 r.gap) (farther r.reliable r.known n)
    (either (λ (k : Reliable). k.0 < turn)
    (lt_z (distance r.reliable.0 r.known.0) (distance r.reliable.0 n.0))
    n
    r.known
    h
    s.known)

module _ {r : Record} (w : Arrived) (s : Sound r) (b : Both w.total w.reliable) where
  put_sound : (f : Option ℕ) → Sound (put_in r w f).after
  put_sound (Some i) = with_place s i (held_as w) b
  put_sound None = s

  placed_sound : Sound (placed r w).after
  unfolding placed
  placed_sound =
      either (λ (p : Placed). Sound p.after) (next_one r w) _ _
      (with_numbers_lem s w.total w.reliable b)
      (put_sound (place_for w r.places))

release_sound : (t : Released) (i : ℕ) → Sound t.after → Sound (release_at t i).after
release_sound t i s = rw (release_is t i) (by (passing t i))
  where
    freed_place : Sound (without t.after i (held_at t i))
    freed_place = with_place s i (free_place (held_at t i)) (counted s i)

    by : (b : Bool) → Sound (release_by b t i (held_at t i)).after
    by true = with_numbers_lem freed_place (held_at t i).total (held_at t i).reliable (counted s i)
    by false = freed_place

released_sound : {r : Record} → Sound r → Sound (released r).after
unfolding released
released_sound s = along (λ t. Sound t.after) (λ t i e. release_sound t i) 4 _ s

acknowledged_sound : {r : Record} (w : Arrived) → Sound r → Sound (acknowledged r w).after
unfolding acknowledged
acknowledged_sound {r} w s =
    either (λ (a : Settled). Sound a.after) (asked r w && not (spared r w)) _ _ (with_acked_lem s r.reliable s.reliable) s

settled_sound : {r : Record} (w : Arrived) → Sound r → Sound (settled r w).after
unfolding settled gapped
settled_sound {r} w s =
    either Settles (closed r) _ _ (acknowledged_sound w (aside s _ _ _ _))
    (either Settles (isLost r w.oldest) _ _ (aside s _ _ _ _) (acknowledged_sound w (aside s _ _ _ _)))
  where
    Settles : Option Record → Type 0
    Settles g = Sound (settled_by g r w).after

pub taken_sound : (r : Record) (w : Arrived) → Sound r → Both w.total w.reliable → Sound (taken r w).after
unfolding taken
taken_sound r w s b = settled_sound w (released_sound (placed_sound w (heard_sound w.reliable s b.1) b))

-- ---- time, and a Join

move_sound : {r : Record} {ms : ℕ} {o : Elapsed} → Sound r → Move r ms o → Sound o.after
move_sound s (stands u) = s
move_sound s (expires u x) = aside s _ _ _ _
move_sound s (lost u x g l c) = aside s _ _ _ _
move_sound s (goes_on u x n) = aside s _ _ _ _

pub elapsed_sound : (r : Record) (ms : ℕ) → Sound r → Sound (elapsed_of r ms).after
elapsed_sound r ms s = move_sound s (moves r ms)

pub made_sound : (old : Record) (owner : Cid) (j : Join) (p : Parameters) (n : ℕ) → Sound old → Both j.total j.reliable
    → Sound (new_record old owner j p n)
unfolding new_record
made_sound old owner j p n s b =
    sound_by (length-map old.places free_place ∙ s.four) b b.1 b.1 (free_counted old.places (counted s))
