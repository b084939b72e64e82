-- Elapsed time leaves a record well formed: a Leaving frees it, and all else keeps its used record within the bounds of its phase.
-- Assumes nothing.
use Prim.Native.Nat.{ℕ, ◌*◌, ◌<◌, ◌≤◌}
use mathlib.Core.Bool.{Bool, true, false}
use mathlib.Core.Logic.{◌≢◌}
use mathlib.Core.Path.{◌≡◌, refl}
use Rattle.std.proofs.Math.Nat.{min-le_left}
use native.Mathlib.Omega.{arith}
use Rattle.counter.specs.declared.Reliable.{Reliable}
use Rattle.record.specs.With.{with_gap, with_idle}
use Rattle.record.specs.WellFormed.{well_formed}
use Rattle.record.specs.declared.Gap.{Gap}
use Rattle.record.specs.declared.Record.{Record}
use Rattle.record.proofs.Choices.{never}
use Rattle.record.proofs.Formed.{Phase, Formed, formed, well_formed_lem, free_formed}
use Rattle.gap.specs.Standoff.{standoff, standoff_of}
use Rattle.gap.specs.Elapsed.{elapsed_of}
use Rattle.gap.specs.declared.Event.{Event}
use Rattle.gap.specs.declared.Event.TheVariants.{Leaving}
use Rattle.gap.specs.declared.Elapsed.{Elapsed}
use Rattle.gap.proofs.Moves.{Next, quiet, stands_on, asks, waits_on, once_more, Move, stands, expires, lost, goes_on, moves}

-- ---- idle time and the phase

-- nothing else of a record asks for either
later_formed : {r : Record} (n : ℕ) (g : Gap) → n < r.terms.expiry * 1000 → Phase r.reliable.0 r.known.0 r.terms g → Formed r
    → Formed (with_gap (with_idle r n) g)
later_formed n g h p f =
    record {
      legal_names = f.legal_names;
      legal_parameters = f.legal_parameters;
      reciprocal = f.reciprocal;
      known = f.known;
      held = f.held;
      apart = f.apart;
      gap = p;
      idle = h;
    }

-- idle time may be any that is below the expiry
pub idle_kept : (r : Record) (n : ℕ) → well_formed r ≡ true → n < r.terms.expiry * 1000 → well_formed (with_idle r n) ≡ true
idle_kept r n w h = by r.used refl
  where
    by : (t : Bool) → r.used ≡ t → well_formed (with_idle r n) ≡ true
    by true u = let f = formed r w u in well_formed_lem (later_formed n r.gap h f.gap f)
    by false u = free_formed (with_idle r n) u

-- a standoff takes at most maxwait
pub standoff_most : (r : Record) → standoff_of r ≤ r.terms.maxwait
unfolding standoff_of standoff
standoff_most r = min-le_left _ _

-- a phase that goes on stays within its bounds
next_phase : (r : Record) (ms : ℕ) {g h : Gap} {e : Event} → Next r ms g h e
    → Phase r.reliable.0 r.known.0 r.terms g → Phase r.reliable.0 r.known.0 r.terms h
next_phase r ms quiet p = p
next_phase r ms (stands_on l) p = (p.0, p.1, omega arith)
next_phase r ms (asks l) p = (p.0, omega arith, omega arith, omega arith)
next_phase r ms (waits_on l) p = (p.0, p.1, p.2, omega arith)
next_phase r ms (once_more l n) p = (p.0, omega arith, standoff_most r)

-- and sends no Leaving
next_sends : {r : Record} {ms : ℕ} {g h : Gap} {e : Event} → Next r ms g h e → (reason : ℕ) (n : Reliable) → e ≢ Leaving reason n
next_sends quiet reason n e = never (cc)
next_sends (stands_on l) reason n e = never (cc)
next_sends (asks l) reason n e = never (cc)
next_sends (waits_on l) reason n e = never (cc)
next_sends (once_more l c) reason n e = never (cc)

-- ---- the record after elapsed time

move_formed : (r : Record) (ms : ℕ) {o : Elapsed} → Move r ms o → well_formed r ≡ true → well_formed o.after ≡ true
move_formed r ms (stands u) w = w
move_formed r ms (expires u x) w = free_formed _ refl
move_formed r ms (lost u x g l c) w = free_formed _ refl
move_formed r ms (goes_on {g} u x n) w =
    let f = formed r w u in
    well_formed_lem (later_formed _ g x (next_phase r ms n f.gap) f)

-- it is well formed, whatever happens
pub elapsed_formed : (r : Record) (ms : ℕ) → well_formed r ≡ true → well_formed (elapsed_of r ms).after ≡ true
elapsed_formed r ms = move_formed r ms (moves r ms)

module _ (r : Record) (ms : ℕ) where
  move_frees : {o : Elapsed} → Move r ms o → (reason : ℕ) (n : Reliable) → o.event ≡ Leaving reason n → (o.after.used ≡ false) × (n ≡ r.reliable)
  move_frees (stands u) reason n e = never (cc)
  move_frees (expires u x) reason n e = (refl, cc)
  move_frees (lost u x g l c) reason n e = (refl, cc)
  move_frees (goes_on u x m) reason n e = absurd (next_sends m reason n e)

  -- every Leaving frees the record and carries R
  pub leaving_frees : (reason : ℕ) (n : Reliable) → (elapsed_of r ms).event ≡ Leaving reason n
      → ((elapsed_of r ms).after.used ≡ false) × (n ≡ r.reliable)
  leaving_frees = move_frees (moves r ms)

  move_keeps : {o : Elapsed} → Move r ms o → ((reason : ℕ) (n : Reliable) → o.event ≢ Leaving reason n) → o.after.used ≡ r.used
  move_keeps (stands u) other = refl
  move_keeps (expires u x) other = absurd (other _ _ refl)
  move_keeps (lost u x g l c) other = absurd (other _ _ refl)
  move_keeps (goes_on u x m) other = refl

  -- and nothing else frees it
  pub others_keep : ((reason : ℕ) (n : Reliable) → (elapsed_of r ms).event ≢ Leaving reason n) → (elapsed_of r ms).after.used ≡ r.used
  others_keep = move_keeps (moves r ms)

  move_terms : {o : Elapsed} → Move r ms o → o.after.terms ≡ r.terms
  move_terms (stands u) = refl
  move_terms (expires u x) = refl
  move_terms (lost u x g l c) = refl
  move_terms (goes_on u x m) = refl

  -- its terms are its own for life
  pub terms_stay : (elapsed_of r ms).after.terms ≡ r.terms
  terms_stay = move_terms (moves r ms)
