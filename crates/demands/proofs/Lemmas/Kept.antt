-- What a wrapper's step does not touch: the terms of its channel never (`terms_kept`), and a phase that runs only if the gap closes or the channel is
-- left (`gap_kept`). Assumes nothing.
use Prim.Native.Nat.{ℕ}
use mathlib.Core.Bool.{Bool, true, false, false≢true, cond, not, ◌&&◌}
use mathlib.Core.Path.{◌≡◌, refl, sym, ap, ◌∙◌}
use Rattle.std.specs.Prelude.{Option, Some, None}
use Rattle.counter.specs.declared.Reliable.{Reliable}
use Rattle.record.specs.With.{with_gap, with_acked, with_numbers}
use Rattle.record.specs.WellFormed.{closed}
use Rattle.record.specs.declared.Gap.TheVariants as gap
use Rattle.record.specs.declared.Record.{Record}
use Rattle.gap.specs.Standoff.{standoff_of}
use Rattle.wrapper.specs.Judge.{heard}
use Rattle.wrapper.specs.Hold.{next_one, place_for, put_in, placed}
use Rattle.wrapper.specs.Release.{release_by, release_at, released}
use Rattle.wrapper.specs.Settle.{lost, begun, gapped, asked, spared, acknowledged, settled_by, settled}
use Rattle.wrapper.specs.Taken.{taken}
use Rattle.wrapper.specs.declared.Arrived.{Arrived}
use Rattle.wrapper.specs.declared.Fate.TheVariants as fate
use Rattle.wrapper.specs.declared.Released.{Released}
use Rattle.wrapper.specs.declared.Reply.TheVariants as reply
use Rattle.wrapper.specs.declared.Settled.{Settled}
use Rattle.wrapper.proofs.Releasing.{along, release_is, passing, held_at}

-- s has the terms, the phase and the mark of r
pub record Kept (r s : Record) : Type 0 where
  pub used : s.used ≡ r.used
  pub terms : s.terms ≡ r.terms
  pub gap : s.gap ≡ r.gap

kept_through : {r s t : Record} → Kept r s → Kept s t → Kept r t
kept_through a b = record { used = b.used ∙ a.used; terms = b.terms ∙ a.terms; gap = b.gap ∙ a.gap }

same : (r : Record) → Kept r r
same r = record { used = refl; terms = refl; gap = refl }

-- steps 2 to 4 keep them
heard_kept : (r : Record) (n : Reliable) → Kept r (heard r n)
unfolding heard
heard_kept r n = record { used = refl; terms = refl; gap = refl }

put_kept : (r : Record) (w : Arrived) (f : Option ℕ) → Kept r (put_in r w f).after
put_kept r w (Some i) = record { used = refl; terms = refl; gap = refl }
put_kept r w None = same r

placed_kept : (r : Record) (w : Arrived) → Kept r (placed r w).after
unfolding placed
placed_kept r w = by (next_one r w)
  where
    by : (b : Bool) → Kept r (cond b (record { after = with_numbers r w.total w.reliable; fate = fate.Delivered }) (put_in r w (place_for w r.places))).after
    by true = record { used = refl; terms = refl; gap = refl }
    by false = put_kept r w (place_for w r.places)

release_kept : (s : Released) (i : ℕ) → Kept s.after (release_at s i).after
release_kept s i = rw (release_is s i) (by (passing s i))
  where
    by : (b : Bool) → Kept s.after (release_by b s i (held_at s i)).after
    by true = record { used = refl; terms = refl; gap = refl }
    by false = record { used = refl; terms = refl; gap = refl }

released_kept : (r : Record) → Kept r (released r).after
unfolding released
released_kept r = along (λ s. Kept r s.after) (λ s i e k. kept_through k (release_kept s i)) 4 _ (same r)

-- step 6 keeps them too, and whether there is a gap
record Spared (r s : Record) : Type 0 where
  kept : Kept r s
  in_gap : closed s ≡ closed r

acknowledged_kept : (r : Record) (w : Arrived) → Spared r (acknowledged r w).after
unfolding acknowledged closed
acknowledged_kept r w = by (asked r w && not (spared r w))
  where
    acks : Settled
    acks = record { after = with_acked r r.reliable; reply = reply.Ack r.reliable }

    keeps : Settled
    keeps = record { after = r; reply = reply.Nothing }

    by : (b : Bool) → Spared r (cond {A = Settled} b acks keeps).after
    by true = record { kept = record { used = refl; terms = refl; gap = refl }; in_gap = refl }
    by false = record { kept = same r; in_gap = refl }

-- ---- step 5

-- what step 5 makes of a record: quiet without a gap, left if what is missing is lost, else in a phase
pub data Settles (r : Record) : Option Record → Type 0 where
  quiet : closed r ≡ true → Settles r (Some (with_gap r gap.Quiet))
  leaves : closed r ≡ false → Settles r None
  waits : closed r ≡ false → Settles r (Some (with_gap r (begun r.gap (standoff_of r))))

gapped_settles : (r : Record) (oldest : Reliable) → Settles r (gapped r oldest)
unfolding gapped
gapped_settles r oldest = by (closed r) (lost r oldest) refl
  where
    by : (b c : Bool) → closed r ≡ b
        → Settles r (cond b (Some (with_gap r gap.Quiet)) (cond c None (Some (with_gap r (begun r.gap (standoff_of r))))))
    by true c e = quiet e
    by false true e = leaves e
    by false false e = waits e

-- steps 5 and 6 for each of these
by_terms : (r : Record) (g : Option Record) (w : Arrived) → Settles r g → (settled_by g r w).after.terms ≡ r.terms
by_terms r g w (quiet e) = (acknowledged_kept (with_gap r gap.Quiet) w).kept.terms
by_terms r g w (leaves e) = refl
by_terms r g w (waits e) = (acknowledged_kept (with_gap r (begun r.gap (standoff_of r))) w).kept.terms

by_gap : (r : Record) (g : Option Record) (w : Arrived) → Settles r g → (settled_by g r w).after.used ≡ true → closed (settled_by g r w).after ≡ false
    → (settled_by g r w).after.gap ≡ begun r.gap (standoff_of r)
unfolding closed
by_gap r g w (quiet e) used in_gap = absurd (false≢true (sym in_gap ∙ (acknowledged_kept (with_gap r gap.Quiet) w).in_gap ∙ e))
by_gap r g w (leaves e) used in_gap = absurd (false≢true used)
by_gap r g w (waits e) used in_gap = (acknowledged_kept (with_gap r (begun r.gap (standoff_of r))) w).kept.gap

-- ---- the whole step

pub kept_before : (r : Record) (w : Arrived) → Kept r (released (placed (heard r w.reliable) w).after).after
kept_before r w =
    kept_through (heard_kept r w.reliable)
    (kept_through (placed_kept (heard r w.reliable) w) (released_kept (placed (heard r w.reliable) w).after))

pub terms_kept : (r : Record) (w : Arrived) → (taken r w).after.terms ≡ r.terms
unfolding taken settled
terms_kept r w = by_terms _ _ w (gapped_settles (released (placed (heard r w.reliable) w).after).after w.oldest) ∙ (kept_before r w).terms

-- a channel that goes on in a gap goes on in its phase, or begins a standoff if it was quiet
pub gap_kept : (r : Record) (w : Arrived) → (taken r w).after.used ≡ true → closed (taken r w).after ≡ false
    → (taken r w).after.gap ≡ begun r.gap (standoff_of (released (placed (heard r w.reliable) w).after).after)
unfolding taken settled
gap_kept r w used in_gap =
    by_gap _ _ w (gapped_settles (released (placed (heard r w.reliable) w).after).after w.oldest) used in_gap
    ∙ ap (λ g. begun g (standoff_of (released (placed (heard r w.reliable) w).after).after)) (kept_before r w).gap

-- what is used after a step was used before it
pub used_before : (r : Record) (w : Arrived) → (taken r w).after.used ≡ true → r.used ≡ true
unfolding taken settled
used_before r w used = sym (kept_before r w).used ∙ by (gapped_settles (released (placed (heard r w.reliable) w).after).after w.oldest) used
  where
    by : {s : Record} {g : Option Record} → Settles s g → (settled_by g s w).after.used ≡ true → s.used ≡ true
    by {s} (quiet e) u = sym (acknowledged_kept (with_gap s gap.Quiet) w).kept.used ∙ u
    by {s} (leaves e) u = absurd (false≢true u)
    by {s} (waits e) u = sym (acknowledged_kept (with_gap s (begun s.gap (standoff_of s))) w).kept.used ∙ u
