-- The range of a NAK is right on a well-formed record with a gap: it begins behind R, holds at least one number, none past K, and none
-- that is held. Assumes nothing.
use Prim.Native.Nat.{ℕ, zero, suc, ◌+◌, ◌%◌, ◌<◌, ◌≤◌}
use mathlib.Core.Bool.{Bool, true, false, cond, false≢true}
use mathlib.Core.List.{List, [], ◌∷◌}
use mathlib.Core.Logic.{◌≢◌}
use mathlib.Core.Path.{◌≡◌, refl, sym, ◌∙◌}
use native.Mathlib.Omega.{arith}
use lib.Dec.{ltb}
use lib.Signed.{lt_z}
use borrow.Author.Tests.{ltb-true, ltb-false, eqb-false, ne_eqb}
use Rattle.std.specs.Prelude.{Option, Some, None}
use Rattle.counter.specs.Distance.{turn, ahead, distance}
use Rattle.counter.specs.Steps.{next, previous}
use Rattle.counter.specs.declared.Reliable.{Reliable}
use Rattle.counter.proofs.Distances.{ahead_below, ahead_zero, ahead_add, before_below, test_nearer}
use Rattle.record.specs.Places.{place_at}
use Rattle.record.specs.WellFormed.{well_formed, closed}
use Rattle.record.specs.declared.Gap.{Gap}
use Rattle.record.specs.declared.Gap.TheVariants.{Quiet, Standoff, Waiting}
use Rattle.record.specs.declared.Place.{Place}
use Rattle.record.specs.declared.Record.{Record}
use Rattle.record.proofs.Formed as formed
use Rattle.record.proofs.Choices.{never}
use Rattle.gap.specs.Range.{nearer, nearest, end_by, nak_first, nak_last, OnlyMissing}
use Rattle.gap.specs.Elapsed.{elapsed_of}
use Rattle.gap.specs.declared.Event.{Event}
use Rattle.gap.specs.declared.Event.TheVariants as event
use Rattle.gap.specs.declared.Elapsed.{Elapsed}
use Rattle.gap.proofs.Moves.{Next, quiet, stands_on, asks, waits_on, once_more, Move, stands, expires, lost, goes_on, moves}

-- one before a number is one fewer ahead, if there was one
ahead_previous : (a b : ℕ) → a < turn → 1 ≤ ahead a b → ahead a (previous b) + 1 ≡ ahead a b
ahead_previous a b ha h =
    no_turn (ahead a (previous b)) (ahead (previous b) b) (ahead a b) (ahead_below a (previous b)) (one b) h
    (ahead_add a (previous b) b ha (before_below 1 b))
  where
    one : (b : ℕ) → ahead (previous b) b ≡ 1
    one b = omega arith

    no_turn : (x y z : ℕ) → x < turn → y ≡ 1 → 1 ≤ z → (x + y) % turn ≡ z → x + 1 ≡ z
    no_turn x y z hx hy hz e = omega arith

-- R and K, less than half a turn apart
module _ (r k : Reliable) (known : ahead r.0 k.0 < 2147483648) where
  -- a found number lies as a held one does
  abbrev Fine : Option Reliable → Type 0
  Fine (Some h) = (2 ≤ ahead r.0 h.0) × (ahead r.0 h.0 ≤ ahead r.0 k.0)
  Fine None = Unit {0}

  -- there is a found number, and at most d numbers lead to it
  abbrev Within : ℕ → Option Reliable → Type 0
  Within d (Some h) = ahead r.0 h.0 ≤ d
  Within d None = ⊥

  -- m is found after n by the place p
  record Nearer (n : Option Reliable) (p : Place) (m : Option Reliable) : Type 0 where
    fine : Fine m
    kept : (d : ℕ) → Within d n → Within d m
    place : p.used ≡ true → Within (ahead r.0 p.reliable.0) m

  nearer_is : (n : Option Reliable) (p : Place) → Fine n → (p.used ≡ true → formed.Held r.0 k.0 p) → Nearer n p (nearer r n p)
  unfolding nearer
  nearer_is None p f h = by p.used refl
    where
      by : (t : Bool) → p.used ≡ t → Nearer None p (cond t (Some p.reliable) None)
      by true u = record { fine = ((h u).beyond, (h u).within); kept = λ d w. absurd w; place = λ v. omega arith }
      by false u = record { fine = tt; kept = λ d w. w; place = λ v. absurd (false≢true (sym u ∙ v)) }
  nearer_is (Some x) p f h = by p.used (lt_z (distance r.0 p.reliable.0) (distance r.0 x.0)) refl refl
    where
      by : (t s : Bool) → p.used ≡ t → lt_z (distance r.0 p.reliable.0) (distance r.0 x.0) ≡ s
          → Nearer (Some x) p (cond t (cond s (Some p.reliable) (Some x)) (Some x))
      by false s u e = record { fine = f; kept = λ d w. w; place = λ v. absurd (false≢true (sym u ∙ v)) }
      by true s u e = test s (sym (test_nearer r.0 p.reliable.0 r.0 x.0 (omega (arith, (h u).within)) (omega arith)) ∙ e)
        where
          test : (s : Bool) → ltb (ahead r.0 p.reliable.0) (ahead r.0 x.0) ≡ s → Nearer (Some x) p (cond s (Some p.reliable) (Some x))
          test true e =
              let c = ltb-true (ahead r.0 p.reliable.0) (ahead r.0 x.0) e in
              record { fine = ((h u).beyond, (h u).within); kept = λ d w. omega arith; place = λ v. omega arith }
          test false e =
              let c = ltb-false (ahead r.0 p.reliable.0) (ahead r.0 x.0) e in
              record { fine = f; kept = λ d w. w; place = λ v. c }

  -- m is found after n by the places ps
  record NearestOf (n : Option Reliable) (ps : List Place) (m : Option Reliable) : Type 0 where
    fine : Fine m
    kept : (d : ℕ) → Within d n → Within d m
    places : (i : ℕ) → (place_at ps i).used ≡ true → Within (ahead r.0 (place_at ps i).reliable.0) m

  after : {n q m : Option Reliable} {p : Place} {ps : List Place} → Nearer n p q → NearestOf q ps m → NearestOf n (p ∷ ps) m
  after {n} {q} {m} {p} {ps} one rest =
      record { fine = rest.fine; kept = λ d w. rest.kept d (one.kept d w); places = at }
    where
      at : (i : ℕ) → (place_at (p ∷ ps) i).used ≡ true → Within (ahead r.0 (place_at (p ∷ ps) i).reliable.0) m
      at zero u = rest.kept _ (one.place u)
      at (suc i) u = rest.places i u

  nearest_is : (ps : List Place) (n : Option Reliable) → Fine n
      → ((i : ℕ) → (place_at ps i).used ≡ true → formed.Held r.0 k.0 (place_at ps i))
      → NearestOf n ps (nearest r n ps)
  unfolding nearest
  nearest_is [] n f h = record { fine = f; kept = λ d w. w; places = λ i u. absurd (false≢true u) }
  nearest_is (p ∷ ps) n f h =
      let one = nearer_is n p f (h 0) in
      after one (nearest_is ps (nearer r n p) one.fine (λ i. h (suc i)))

-- ---- the range

ends : (r k : Reliable) (h : ahead r.0 k.0 < 2147483648) (ps : List Place) → r.0 < turn → 1 ≤ ahead r.0 k.0
    → (m : Option Reliable) → NearestOf r k h None ps m → OnlyMissing r.0 k.0 ps (next r.0) (end_by m k).0
ends r k h ps hr gap None f =
    record { begins = refl; some = gap; within = omega arith; missing = λ i u. absurd (f.places i u) }
ends r k h ps hr gap (Some n) f =
    let less = ahead_previous r.0 n.0 hr (omega (arith, f.fine.0)) in
    record {
      begins = refl;
      some = omega (arith, f.fine.0);
      within = omega (arith, f.fine.1);
      missing = λ i u. omega (arith, f.places i u);
    }

-- the NAK of a record with a gap; R and K are numbers of 32 bits
pub range : (r : Record) → r.reliable.0 < turn → r.known.0 < turn → well_formed r ≡ true → r.used ≡ true → closed r ≡ false
    → OnlyMissing r.reliable.0 r.known.0 r.places (nak_first r).0 (nak_last r).0
unfolding closed nak_first nak_last
range r hr hk w u g =
    let f = formed.formed r w u in
    let apart : r.known.0 ≢ r.reliable.0 = eqb-false _ _ g in
    let some : ahead r.reliable.0 r.known.0 ≢ 0 = λ e. apart (sym ((ahead_zero _ _ hr hk).0 e)) in
    ends r.reliable r.known f.known r.places hr (omega arith) _
    (nearest_is r.reliable r.known f.known r.places None tt f.held)

gap_open : (r : Record) → r.known.0 ≢ r.reliable.0 → closed r ≡ false
unfolding closed
gap_open r h = ne_eqb _ _ h

move_asks : (r : Record) (ms : ℕ) → r.reliable.0 < turn → r.known.0 < turn → well_formed r ≡ true → {o : Elapsed} → Move r ms o
    → (n first last : Reliable) (outbound : Bool) → o.event ≡ event.Nak n first last outbound
    → (n ≡ r.reliable) × OnlyMissing r.reliable.0 r.known.0 r.places first.0 last.0
move_asks r ms hr hk w (stands u) n first last outbound e = never (cc)
move_asks r ms hr hk w (expires u x) n first last outbound e = never (cc)
move_asks r ms hr hk w (lost u x g l c) n first last outbound e = never (cc)
move_asks r ms hr hk w (goes_on u x m) n first last outbound e = by r.gap m (formed.formed r w u).gap e
  where
    by : (g : Gap) {h : Gap} {o : Event} → Next r ms g h o → formed.Phase r.reliable.0 r.known.0 r.terms g
        → o ≡ event.Nak n first last outbound
        → (n ≡ r.reliable) × OnlyMissing r.reliable.0 r.known.0 r.places first.0 last.0
    by Quiet quiet p e = never (cc)
    by (Standoff left count) (stands_on l) p e = never (cc)
    by (Waiting left count) (waits_on l) p e = never (cc)
    by (Waiting left count) (once_more l c) p e = never (cc)
    by (Standoff left count) (asks l) p e =
        let f : nak_first r ≡ first = cc in
        let t : nak_last r ≡ last = cc in
        let s : r.reliable ≡ n = cc in
        (sym s, rw (← f, ← t) (range r hr hk w u (gap_open r p.0)))

-- so every NAK that elapsed time sends carries R and such a range
pub nak_asks : (r : Record) (ms : ℕ) → r.reliable.0 < turn → r.known.0 < turn → well_formed r ≡ true
    → (n first last : Reliable) (outbound : Bool) → (elapsed_of r ms).event ≡ event.Nak n first last outbound
    → (n ≡ r.reliable) × OnlyMissing r.reliable.0 r.known.0 r.places first.0 last.0
nak_asks r ms hr hk w = move_asks r ms hr hk w (moves r ms)
