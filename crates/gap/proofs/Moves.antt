-- What elapsed time can do to a record, summed up once: a law on elapsed time goes by the cases of `Move` and does not open `elapsed_of`.
-- Assumes nothing.
use Prim.Native.Nat.{ℕ, ◌+◌, ◌-◌, ◌*◌, ◌<◌, ◌≤◌}
use mathlib.Core.Bool.{Bool, true, false, cond}
use mathlib.Core.Logic.{◌≢◌}
use mathlib.Core.Path.{◌≡◌, refl, sym, subst}
use native.Mathlib.Omega.{arith}
use lib.Dec.{leb, eqb}
use borrow.Author.Tests.{leb-true, leb-false, eqb-true, eqb-false}
use Rattle.record.specs.Profile.{nak_timeout, max_retries}
use Rattle.record.specs.Reasons.{channel_expired, lost_sequence}
use Rattle.record.specs.With.{freed, with_gap, with_idle}
use Rattle.record.specs.declared.Gap.{Gap}
use Rattle.record.specs.declared.Gap.TheVariants.{Quiet, Standoff, Waiting}
use Rattle.record.specs.declared.Record.{Record}
use Rattle.gap.specs.Standoff.{standoff_of}
use Rattle.gap.specs.Range.{nak_first, nak_last}
use Rattle.gap.specs.Elapsed.{gives, in_standoff, in_wait, phased, elapsed_of}
use Rattle.gap.specs.declared.Event.{Event}
use Rattle.gap.specs.declared.Event.TheVariants.{Nothing, Nak, Leaving}
use Rattle.gap.specs.declared.Elapsed.{Elapsed}

-- the record with its idle time grown
abbrev pub later : Record → ℕ → Record
later r ms = with_idle r (r.idle + ms)

-- what a phase becomes on a channel that goes on, and what is sent
pub data Next (r : Record) (ms : ℕ) : Gap → Gap → Event → Type 0 where
  quiet : Next r ms Quiet Quiet Nothing
  stands_on : {left count : ℕ} → ms < left → Next r ms (Standoff left count) (Standoff (left - ms) count) Nothing
  asks : {left count : ℕ} → left ≤ ms
      → Next r ms (Standoff left count) (Waiting (nak_timeout r.terms.expiry) (count + 1)) (Nak r.reliable (nak_first r) (nak_last r) r.terms.outbound)
  waits_on : {left count : ℕ} → ms < left → Next r ms (Waiting left count) (Waiting (left - ms) count) Nothing
  once_more : {left count : ℕ} → left ≤ ms → count ≢ max_retries → Next r ms (Waiting left count) (Standoff (standoff_of r) count) Nothing

-- a free record stands; a used one expires, is lost with its NAKs spent, or goes on
pub data Move (r : Record) (ms : ℕ) : Elapsed → Type 0 where
  stands : r.used ≡ false → Move r ms (gives r Nothing)
  expires : r.used ≡ true → r.terms.expiry * 1000 ≤ r.idle + ms → Move r ms (gives (freed (later r ms)) (Leaving channel_expired r.reliable))
  lost : {left count : ℕ} → r.used ≡ true → r.idle + ms < r.terms.expiry * 1000 → r.gap ≡ Waiting left count → left ≤ ms → count ≡ max_retries
      → Move r ms (gives (freed (with_gap (later r ms) (Waiting (left - ms) count))) (Leaving lost_sequence r.reliable))
  goes_on : {g : Gap} {e : Event} → r.used ≡ true → r.idle + ms < r.terms.expiry * 1000 → Next r ms r.gap g e
      → Move r ms (gives (with_gap (later r ms) g) e)

-- families are written out: `rw` along the gap of r would rewrite r itself
module _ (r : Record) (ms : ℕ) (u : r.used ≡ true) (lives : r.idle + ms < r.terms.expiry * 1000) where
  goes : (g : Gap) {h : Gap} {e : Event} → r.gap ≡ g → Next r ms g h e → Move r ms (gives (with_gap (later r ms) h) e)
  goes g {h} {e} s n = goes_on u lives (subst (λ (x : Gap). Next r ms x h e) (sym s) n)

  phase_moves : (g : Gap) → r.gap ≡ g → Move r ms (phased (later r ms) g ms)
  unfolding phased in_standoff in_wait standoff_of nak_first nak_last
  phase_moves Quiet s = subst (λ (g : Gap). Move r ms (gives (with_gap (later r ms) g) Nothing)) (sym s) (goes Quiet s quiet)
  phase_moves (Standoff left count) s = by (eqb (left - ms) 0) refl
    where
      by : (t : Bool) → eqb (left - ms) 0 ≡ t
          → Move r ms
          (cond t
          (gives (with_gap (later r ms) (Waiting (nak_timeout r.terms.expiry) (count + 1))) (Nak r.reliable (nak_first r) (nak_last r) r.terms.outbound))
          (gives (with_gap (later r ms) (Standoff (left - ms) count)) Nothing))
      by true z = goes _ s (asks (omega (arith, eqb-true (left - ms) 0 z)))
      by false z = let n : left - ms ≢ 0 = eqb-false (left - ms) 0 z in goes _ s (stands_on (omega arith))
  phase_moves (Waiting left count) s = by (eqb (left - ms) 0) (eqb count max_retries) refl refl
    where
      by : (t v : Bool) → eqb (left - ms) 0 ≡ t → eqb count max_retries ≡ v
          → Move r ms
          (cond t
          (cond v
          (gives (freed (with_gap (later r ms) (Waiting (left - ms) count))) (Leaving lost_sequence r.reliable))
          (gives (with_gap (later r ms) (Standoff (standoff_of r) count)) Nothing))
          (gives (with_gap (later r ms) (Waiting (left - ms) count)) Nothing))
      by true true z e = lost u lives s (omega (arith, eqb-true (left - ms) 0 z)) (eqb-true count max_retries e)
      by true false z e = goes _ s (once_more (omega (arith, eqb-true (left - ms) 0 z)) (eqb-false count max_retries e))
      by false v z e = let n : left - ms ≢ 0 = eqb-false (left - ms) 0 z in goes _ s (waits_on (omega arith))

pub moves : (r : Record) (ms : ℕ) → Move r ms (elapsed_of r ms)
unfolding elapsed_of
moves r ms = by r.used (leb (r.terms.expiry * 1000) (r.idle + ms)) refl refl
  where
    by : (t x : Bool) → r.used ≡ t → leb (r.terms.expiry * 1000) (r.idle + ms) ≡ x
        → Move r ms
        (cond t (cond x (gives (freed (later r ms)) (Leaving channel_expired r.reliable)) (phased (later r ms) r.gap ms)) (gives r Nothing))
    by true true u e = expires u (leb-true _ _ e)
    by true false u e = phase_moves r ms u (leb-false _ _ e) r.gap refl
    by false x u e = stands u
