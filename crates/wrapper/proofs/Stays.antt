-- A wrapper's step leaves a record well formed: steps 2 to 4 keep `Going`, which is all of it but that the phase fits R and K, and step 5
-- makes the phase fit again. Assumes nothing.
use Prim.{Unit}
use Prim.Native.Nat.{ℕ, zero, suc, ◌+◌, ◌*◌, ◌<◌, ◌≤◌}
use mathlib.Core.Bool.{Bool, true, false, cond, not, ◌&&◌, ◌||◌, and-eq-true_iff, false≢true}
use mathlib.Core.List.{List, [], ◌∷◌}
use mathlib.Core.Logic.{◌≢◌, inl, inr}
use mathlib.Core.Path.{◌≡◌, refl, sym, ◌∙◌}
use native.Mathlib.Omega.{arith}
use lib.Dec.{ltb, eqb}
use lib.IntN.{ℤ, pos}
use lib.ListN.{length, set, length-set, get_or-eq_default}
use lib.Signed.{lt_z, le_z}
use borrow.Author.Tests.{ltb-true, ltb-false, eqb-true, eqb-false, eq-eqb}
use Rattle.std.specs.Prelude.{Option, Some, None, IfSome, Result, Ok, Err}
use Rattle.counter.specs.Distance.{turn, ahead, distance}
use Rattle.counter.specs.declared.Reliable.{Reliable}
use Rattle.counter.proofs.Distances.{ahead_zero, ahead_between, ahead_is, distance_ahead, at_least, test_nearer}
use Rattle.record.specs.Legal.{legal_names, legal_parameters}
use Rattle.record.specs.Places.{no_place, place_at}
use Rattle.record.specs.WellFormed.{most_contents, closed, well_formed}
use Rattle.record.specs.With.{freed, free_place, with_numbers, with_places, with_gap, with_acked}
use Rattle.record.specs.declared.Gap.{Gap}
use Rattle.record.specs.declared.Gap.TheVariants.{Quiet, Standoff, Waiting}
use Rattle.record.specs.declared.Place.{Place}
use Rattle.record.specs.declared.Terms.{Terms}
use Rattle.record.specs.declared.Record.{Record}
use Rattle.record.proofs.Choices.{each_case, never}
use Rattle.record.proofs.Searching.{none_passes}
use Rattle.record.proofs.Profile.{some_retries}
use Rattle.record.proofs.Stored.{Stored, used_stored}
use Rattle.record.proofs.Formed.{Apart, Phase, Formed, formed, well_formed_lem, free_formed}
use Rattle.gap.specs.Standoff.{standoff_of}
use Rattle.gap.proofs.Stays.{standoff_most}
use Rattle.refusal.specs.declared.Refusal.{Refusal}
use Rattle.refusal.specs.declared.Refusal.TheVariants.{Old, Inconsistent}
use Rattle.wrapper.specs.Judge.{consistent, judged_by, judged, farther, heard}
use Rattle.wrapper.specs.Hold.{is, next_one, holds, lowest_free, place_for, held_as, put_in, placed}
use Rattle.wrapper.specs.Release.{is_next, next_held, release_by, release_at, released}
use Rattle.wrapper.specs.Settle.{lost, begun, gapped, asked, spared, acknowledged, settled_by, settled}
use Rattle.wrapper.specs.Taken.{taken, stepped_by, stepped}
use Rattle.wrapper.specs.declared.Arrived.{Arrived}
use Rattle.wrapper.specs.declared.Fate.TheVariants as fate
use Rattle.wrapper.specs.declared.Plan.{Plan}
use Rattle.wrapper.specs.declared.Placed.{Placed}
use Rattle.wrapper.specs.declared.Released.{Released}
use Rattle.wrapper.specs.declared.Reply.TheVariants as reply
use Rattle.wrapper.specs.declared.Settled.{Settled}
use Rattle.wrapper.proofs.InTurn.{is_number}
use Rattle.wrapper.proofs.Releasing.{held_at, passing, release_is, along}
use Rattle.wrapper.proofs.ReleaseIsDone.{found_next, release_is_done}

-- ---- a record between the steps

-- a held wrapper with R and K: `least` or more ahead of R, not past K, contents that fit, a number of its counter
pub record Waits (least reliable known : ℕ) (p : Place) : Type 0 where
  pub beyond : least ≤ ahead reliable p.reliable.0
  pub within : ahead reliable p.reliable.0 ≤ ahead reliable known
  pub contents : p.len ≤ most_contents
  pub below : p.reliable.0 < turn

-- what steps 3 and 4 let stand; of the phase it asks that step 5 can make it fit any gap
pub record Stands (t : Terms) (g : Gap) (ms : ℕ) : Type 0 where
  pub legal_names : legal_names t.channel t.mid ≡ true
  pub legal_parameters : legal_parameters t.modulus t.expiry ≡ true
  pub reciprocal : t.reciprocal ≢ 0
  pub phase : (reliable known time : ℕ) → known ≢ reliable → time ≤ t.maxwait → Phase reliable known t (begun g time)
  pub idle : ms < t.expiry * 1000

-- a record on its way through a step, its held wrappers `least` or more ahead of R
pub record Going (least : ℕ) (r : Record) : Type 0 where
  pub stands : Stands r.terms r.gap r.idle
  pub four : length r.places ≡ 4
  pub below : r.reliable.0 < turn
  pub known : ahead r.reliable.0 r.known.0 < 2147483648
  pub held : (i : ℕ) → (place_at r.places i).used ≡ true → Waits least r.reliable.0 r.known.0 (place_at r.places i)
  pub apart : Apart r.places

-- the numbers that are held are numbers of the counter
abbrev pub HeldBelow : List Place → Type 0
HeldBelow ps = (i : ℕ) → (place_at ps i).used ≡ true → (place_at ps i).reliable.0 < turn

-- ---- numbers and tests

-- as many ahead of the same number are the same
ahead_same : (r a b : ℕ) → r < turn → a < turn → b < turn → ahead r a ≡ ahead r b → a ≡ b
ahead_same r a b hr ha hb e =
    let sum = ahead_between r a b hr ha (omega arith) in
    let none : ahead a b ≡ 0 = omega (arith, sum) in
    (ahead_zero a b ha hb).0 none

-- the test of a distance, of the numbers ahead
is_ahead : (n a b : ℕ) → is n (distance a b) ≡ true → ahead a b ≡ n
is_ahead n a b e = (ahead_is a b n (is_number n (distance a b) e)).0

not_ahead : (n a b : ℕ) → n < 2147483648 → is n (distance a b) ≡ false → ahead a b ≢ n
not_ahead n a b h e f =
    let d = distance_ahead a b n f h in
    false≢true (sym e ∙ (rw d (eq-eqb n n refl)))

-- with R moved up to n, a wrapper and K have lost as many ahead
nearer : (least m reliable known n : ℕ) (p : Place) → reliable < turn → n < turn → ahead reliable n ≤ ahead reliable known
    → least + ahead reliable n ≤ ahead reliable p.reliable.0 → Waits m reliable known p → Waits least n known p
nearer least m reliable known n p hr hn hk h a =
    let to-known = ahead_between reliable n known hr hn hk in
    let to_held = ahead_between reliable n p.reliable.0 hr hn (omega arith) in
    record {
      beyond = omega (arith, to_held);
      within = omega (arith, to_held, to-known, a.within);
      contents = a.contents;
      below = a.below;
    }

-- and K is within the half turn still
still_known : (reliable known n : ℕ) → reliable < turn → n < turn → ahead reliable n ≤ ahead reliable known
    → ahead reliable known < 2147483648 → ahead n known < 2147483648
still_known reliable known n hr hn hk h = omega (arith, ahead_between reliable n known hr hn hk)

-- ---- step 1

consistent_least : (s : Bool) (d e : ℤ) → consistent s d e ≡ true → le_z (pos (cond s 1 0)) e ≡ true
unfolding consistent
consistent_least true d e c = ((and-eq-true_iff (le_z (pos 1) e) (le_z e d)).0 c).0
consistent_least false d e c = ((and-eq-true_iff (le_z (pos 0) e) (lt_z e d)).0 c).0

fresh_consistent : (s : Bool) (d e : ℤ) → judged_by s d e ≡ Ok tt → consistent s d e ≡ true
unfolding judged_by
fresh_consistent s d e j = by (le_z d (pos 0)) (consistent s d e) j
  where
    by : (o c : Bool) → cond o (Err Old) (cond c (Ok (tt {0})) (Err Inconsistent)) ≡ Ok (tt {0}) → c ≡ true
    by true c q = never (cc)
    by false true q = refl
    by false false q = never (cc)

-- a fresh wrapper is less than half a turn ahead of R, and a reliable one is ahead
pub fresh_ahead : (r : Record) (w : Arrived) → judged r w.reliably w.total w.reliable ≡ Ok tt
    → (cond w.reliably 1 0 ≤ ahead r.reliable.0 w.reliable.0) × (ahead r.reliable.0 w.reliable.0 < 2147483648)
unfolding judged
fresh_ahead r w j =
    (at_least (cond w.reliably 1 0) r.reliable.0 w.reliable.0).0
    (consistent_least w.reliably _ _ (fresh_consistent w.reliably (distance r.total.0 w.total.0) _ j))

-- ---- step 2

-- a phase that runs keeps its bounds, and a new standoff has its own
phase_begun : (reliable known : ℕ) (t : Terms) (g : Gap) → Phase reliable known t g → (m n time : ℕ) → n ≢ m → time ≤ t.maxwait
    → Phase m n t (begun g time)
phase_begun reliable known t Quiet p m n time h l = (h, some_retries, l)
phase_begun reliable known t (Standoff left count) p m n time h l = (h, p.1, p.2)
phase_begun reliable known t (Waiting left count) p m n time h l = (h, p.1, p.2, p.3)

-- x is no nearer to R than K and n are, and within the half turn
abbrev Farther : Reliable → Reliable → Reliable → Reliable → Type 0
Farther r k n x =
    (ahead r.0 k.0 ≤ ahead r.0 x.0) × (ahead r.0 n.0 ≤ ahead r.0 x.0) × (ahead r.0 x.0 < 2147483648)

farther_is : (r k n : Reliable) → ahead r.0 k.0 < 2147483648 → ahead r.0 n.0 < 2147483648 → Farther r k n (farther r k n)
unfolding farther
farther_is r k n hk hn =
    each_case
    (Farther r k n)
    (lt_z (distance r.0 k.0) (distance r.0 n.0))
    n
    k
    (λ e.
    let l = ltb-true (ahead r.0 k.0) (ahead r.0 n.0) (sym (test_nearer r.0 k.0 r.0 n.0 hk hn) ∙ e) in
    (omega (arith, l), omega arith, hn))
    (λ e.
    let l = ltb-false (ahead r.0 k.0) (ahead r.0 n.0) (sym (test_nearer r.0 k.0 r.0 n.0 hk hn) ∙ e) in
    (omega arith, l, hk))

module _ (r : Record) (n : Reliable) (f : Formed r) (ahead_of_lem : ahead r.reliable.0 n.0 < 2147483648) where
  -- the wrapper is not past K
  pub heard_within : ahead (heard r n).reliable.0 n.0 ≤ ahead (heard r n).reliable.0 (heard r n).known.0
  unfolding heard
  heard_within = (farther_is r.reliable r.known n f.known ahead_of_lem).1

  -- step 2 keeps all but that the phase fits R and K
  pub heard_going : length r.places ≡ 4 → r.reliable.0 < turn → HeldBelow r.places → Going 2 (heard r n)
  unfolding heard
  heard_going four below held_below =
      let k = farther_is r.reliable r.known n f.known ahead_of_lem in
      record {
        stands =
            record {
              legal_names = f.legal_names;
              legal_parameters = f.legal_parameters;
              reciprocal = f.reciprocal;
              phase = phase_begun r.reliable.0 r.known.0 r.terms r.gap f.gap;
              idle = omega (arith, f.idle);
            };
        four = four;
        below = below;
        known = k.2;
        held = λ i u.
            let h = f.held i u in
            record { beyond = h.beyond; within = omega (arith, h.within, k.0); contents = h.contents; below = held_below i u };
        apart = f.apart;
      }

-- ---- step 3

-- no held one has a number that is not held
not_held : (n : Reliable) (ps : List Place) → holds n ps ≡ false → (i : ℕ) → (place_at ps i).used ≡ true → (place_at ps i).reliable.0 ≢ n.0
unfolding holds
not_held n [] h i u e = false≢true u
not_held n (p ∷ ps) h zero u e = no p.used _ (holds n ps) u (eq-eqb _ _ e) h
  where
    no : (a b c : Bool) → a ≡ true → b ≡ true → (a && b) || c ≡ false → ⊥
    no a b c f g h = false≢true (sym (rw (f, g) at h))
not_held n (p ∷ ps) h (suc i) u e = not_held n ps (rest (p.used && eqb p.reliable.0 n.0) (holds n ps) h) i u e
  where
    rest : (a b : Bool) → a || b ≡ false → b ≡ false
    rest true b h = absurd (false≢true (sym h))
    rest false b h = h

-- a place is found only for a reliable wrapper whose number is not held
place_found : (w : Arrived) (ps : List Place) (i : ℕ) → place_for w ps ≡ Some i → (w.reliably ≡ true) × (holds w.reliable ps ≡ false)
unfolding place_for
place_found w ps i e = by w.reliably (holds w.reliable ps) e
  where
    by : (s h : Bool) → cond s (cond h None (lowest_free ps)) None ≡ Some i → (s ≡ true) × (h ≡ false)
    by true true q = never (cc)
    by true false q = (refl, refl)
    by false h q = never (cc)

-- two or more ahead is one or more ahead
sooner : {r : Record} → Going 2 r → Going 1 r
sooner g =
    record {
      stands = g.stands;
      four = g.four;
      below = g.below;
      known = g.known;
      held = λ i u.
          let h = g.held i u in
          record { beyond = omega (arith, h.beyond); within = h.within; contents = h.contents; below = h.below };
      apart = g.apart;
    }

module _
    (r : Record)
    (w : Arrived)
    (g : Going 2 r)
    (below : w.reliable.0 < turn)
    (fits : w.len ≤ most_contents)
    (from : cond w.reliably 1 0 ≤ ahead r.reliable.0 w.reliable.0)
    (within : ahead r.reliable.0 w.reliable.0 ≤ ahead r.reliable.0 r.known.0)
  where
    -- the next one moves R by one, or not at all, so that what was two ahead is one ahead
    next_going : next_one r w ≡ true → Going 1 (with_numbers r w.total w.reliable)
    unfolding next_one
    next_going e =
        let n = is_ahead (cond w.reliably 1 0) r.reliable.0 w.reliable.0 e in
        let most = each_case (λ (k : ℕ). k ≤ 1) w.reliably 1 0 (λ t. omega arith) (λ t. omega arith) in
        record {
          stands = g.stands;
          four = g.four;
          below = below;
          known = still_known r.reliable.0 r.known.0 w.reliable.0 g.below below within g.known;
          held = λ i u.
              let h = g.held i u in
              nearer 1 2 r.reliable.0 r.known.0 w.reliable.0 (place_at r.places i) g.below below within
              (omega (arith, n, most, h.beyond))
              h;
          apart = g.apart;
        }

    held_waits : w.reliably ≡ true → Waits 1 r.reliable.0 r.known.0 (held_as w)
    held_waits t = record { beyond = rw t at from; within = within; contents = fits; below = below }

    -- a newly held one is ahead of R, not past K, and held nowhere else
    held_going : (i : ℕ) → place_for w r.places ≡ Some i → Going 1 (with_places r (set r.places i (held_as w)))
    held_going i e =
        let f = place_found w r.places i e in
        let other = not_held w.reliable r.places f.1 in
        record {
          stands = g.stands;
          four = length-set r.places i (held_as w) ∙ g.four;
          below = g.below;
          known = g.known;
          held = λ j u. waits f.0 j u (used_stored r.places i (held_as w) j u);
          apart = λ j k u v n. differ other j k u v n (used_stored r.places i (held_as w) j u) (used_stored r.places i (held_as w) k v);
        }
      where
        after : ℕ → Place
        after j = place_at (set r.places i (held_as w)) j

        waits : w.reliably ≡ true → (j : ℕ) → (after j).used ≡ true
            → Stored no_place r.places i (held_as w) j
            → Waits 1 r.reliable.0 r.known.0 (after j)
        waits t j u (inl a) = rw a.1 (held_waits t)
        waits t j u (inr a) = rw a.1 ((sooner g).held j (rw a.1 at u))

        differ : ((j : ℕ) → (place_at r.places j).used ≡ true → (place_at r.places j).reliable.0 ≢ w.reliable.0)
            → (j k : ℕ) → (after j).used ≡ true → (after k).used ≡ true → (after j).reliable.0 ≡ (after k).reliable.0
            → Stored no_place r.places i (held_as w) j
            → Stored no_place r.places i (held_as w) k
            → j ≡ k
        differ other j k u v n (inl a) (inl b) = sym a.0 ∙ b.0
        differ other j k u v n (inl a) (inr b) =
            absurd (other k (rw b.1 at v) (sym (rw (a.1, b.1) at n)))
        differ other j k u v n (inr a) (inl b) = absurd (other j (rw a.1 at u) (rw (a.1, b.1) at n))
        differ other j k u v n (inr a) (inr b) = g.apart j k (rw a.1 at u) (rw b.1 at v) (rw (a.1, b.1) at n)

    -- step 3 leaves held wrappers one or more ahead
    pub placed_going : Going 1 (placed r w).after
    unfolding placed
    placed_going =
        each_case (λ (p : Placed). Going 1 p.after)
        (next_one r w)
        (record { after = with_numbers r w.total w.reliable; fate = fate.Delivered })
        (put_in r w (place_for w r.places))
        next_going
        (λ e. put (place_for w r.places) refl)
      where
        put : (f : Option ℕ) → place_for w r.places ≡ f → Going 1 (put_in r w f).after
        put (Some i) e = held_going i e
        put None e = sooner g

-- ---- step 4

module _ (s : Released) (i : ℕ) (e : next_held s.after.reliable s.after.places ≡ Some i) (g : Going 1 s.after) where
  abbrev p : Place
  p = held_at s i

  next_is : (p.used ≡ true) × (ahead s.after.reliable.0 p.reliable.0 ≡ 1)
  next_is =
      let f = (and-eq-true_iff p.used _).0 (found_next s i e).1 in
      (f.0, is_ahead 1 s.after.reliable.0 p.reliable.0 f.1)

  abbrev after : ℕ → Place
  after j = place_at (set s.after.places i (free_place p)) j

  -- what is held still is another, as it was
  other_held : (j : ℕ) → (after j).used ≡ true → (i ≢ j) × (after j ≡ place_at s.after.places j)
  other_held j u = by (used_stored s.after.places i (free_place p) j u)
    where
      by : Stored no_place s.after.places i (free_place p) j → (i ≢ j) × (after j ≡ place_at s.after.places j)
      by (inl a) = absurd (false≢true (rw a.1 at u))
      by (inr a) = a

  apart_still : Apart (set s.after.places i (free_place p))
  apart_still j k u v n =
      let a = other_held j u in
      let b = other_held k v in
      g.apart j k (rw a.1 at u) (rw b.1 at v) (rw (a.1, b.1) at n)

  four_still : length (set s.after.places i (free_place p)) ≡ 4
  four_still = length-set s.after.places i (free_place p) ∙ g.four

  thrown_going : Going 1 (release_by false s i p).after
  thrown_going =
      record {
        stands = g.stands;
        four = four_still;
        below = g.below;
        known = g.known;
        held = λ j u.
            let a = other_held j u in
            rw a.1 (g.held j (rw a.1 at u));
        apart = apart_still;
      }

  -- another held one is two or more ahead, since its number is another
  farther_held : (j : ℕ) → i ≢ j → (place_at s.after.places j).used ≡ true
      → 2 ≤ ahead s.after.reliable.0 (place_at s.after.places j).reliable.0
  farther_held j z u =
      let h = g.held j u in
      let two : ahead s.after.reliable.0 (place_at s.after.places j).reliable.0 ≢ 1 =
      λ o.
      z
      (sym (g.apart j i u next_is.0
      (ahead_same s.after.reliable.0 _ p.reliable.0 g.below h.below (g.held i next_is.0).below (o ∙ sym next_is.1))))
      in
      omega (arith, h.beyond)

  delivered_going : Going 1 (release_by true s i p).after
  delivered_going =
      let this = g.held i next_is.0 in
      record {
        stands = g.stands;
        four = four_still;
        below = this.below;
        known = still_known s.after.reliable.0 s.after.known.0 p.reliable.0 g.below this.below this.within g.known;
        held = λ j u.
            let a = other_held j u in
            let v = rw a.1 at u in
            rw a.1
            (nearer 1 1 s.after.reliable.0 s.after.known.0 p.reliable.0 (place_at s.after.places j) g.below this.below
            this.within
            (omega (arith, next_is.1, farther_held j a.0 v))
            (g.held j v));
        apart = apart_still;
      }

  -- one release keeps held wrappers one or more ahead
  release_going : Going 1 (release_at s i).after
  release_going = rw (release_is s i) (by (passing s i))
    where
      by : (b : Bool) → Going 1 (release_by b s i p).after
      by true = delivered_going
      by false = thrown_going

-- where none is found, none is next: past the places stands a free one
none_next : (r : Reliable) (ps : List Place) → next_held r ps ≡ None → (i : ℕ) → is_next r (place_at ps i) ≡ false
unfolding next_held
none_next r ps e i = by (ltb i (length ps)) refl
  where
    by : (b : Bool) → ltb i (length ps) ≡ b → is_next r (place_at ps i) ≡ false
    by true l = none_passes (is_next r) ps e i no_place (ltb-true i (length ps) l)
    by false l = rw (get_or-eq_default ps no_place (ltb-false i (length ps) l))

-- all releases together keep them so
all_going : (r : Record) → Going 1 r → Going 1 (released r).after
unfolding released
all_going r g = along (λ s. Going 1 s.after) release_going 4 _ g

-- step 4 leaves held wrappers two or more ahead, since none is next any more
pub released_going : (r : Record) → Going 1 r → Going 2 (released r).after
released_going r g =
    let after = all_going r g in
    let none = none_next (released r).after.reliable (released r).after.places (release_is_done r g.four) in
    record {
      stands = after.stands;
      four = after.four;
      below = after.below;
      known = after.known;
      held = λ i u.
          let h = after.held i u in
          let one = not_ahead 1 _ _ (omega arith) (unless (place_at (released r).after.places i).used _ u (none i)) in
          record { beyond = omega (arith, h.beyond, one); within = h.within; contents = h.contents; below = h.below };
      apart = after.apart;
    }
  where
    unless : (a b : Bool) → a ≡ true → a && b ≡ false → b ≡ false
    unless a b u e = rw u at e

-- ---- steps 5 and 6

-- with a phase that fits, the record is well formed
going_formed : (r : Record) (g : Gap) → Going 2 r → Phase r.reliable.0 r.known.0 r.terms g → well_formed (with_gap r g) ≡ true
going_formed r g h p =
    well_formed_lem {r = with_gap r g}
    (record {
      legal_names = h.stands.legal_names;
      legal_parameters = h.stands.legal_parameters;
      reciprocal = h.stands.reciprocal;
      known = h.known;
      held = λ i u.
          let a = h.held i u in
          record { beyond = a.beyond; within = a.within; contents = a.contents };
      apart = h.apart;
      gap = p;
      idle = h.stands.idle;
    })

-- so step 5 makes the phase fit, where the channel is not left (and a record that is freed is well formed: `free_formed`)
pub gapped_formed : (r : Record) (oldest : Reliable) → Going 2 r → IfSome (gapped r oldest) (λ s. well_formed s ≡ true)
unfolding gapped closed
gapped_formed r oldest h =
    each_case Formed_by (closed r) (Some (with_gap r Quiet)) _
    (λ e. going_formed r Quiet h (eqb-true r.known.0 r.reliable.0 e))
    (λ e.
    each_case Formed_by (lost r oldest) None (Some (with_gap r (begun r.gap (standoff_of r))))
    (λ l. tt)
    (λ l.
    going_formed r (begun r.gap (standoff_of r)) h
    (h.stands.phase r.reliable.0 r.known.0 (standoff_of r) (eqb-false r.known.0 r.reliable.0 e) (standoff_most r))))
  where
    Formed_by : Option Record → Type 0
    Formed_by g = IfSome g (λ s. well_formed s ≡ true)

-- nothing is asked of A
acked_formed : (r : Record) (a : Reliable) → well_formed (with_acked r a) ≡ well_formed r
unfolding well_formed closed
acked_formed r a = refl

-- step 6 keeps a record well formed
pub acknowledged_formed : (r : Record) (w : Arrived) → well_formed r ≡ true → well_formed (acknowledged r w).after ≡ true
unfolding acknowledged
acknowledged_formed r w h =
    each_case (λ (s : Settled). well_formed s.after ≡ true)
    (asked r w && not (spared r w))
    (record { after = with_acked r r.reliable; reply = reply.Ack r.reliable })
    (record { after = r; reply = reply.Nothing })
    (λ e. acked_formed r r.reliable ∙ h)
    (λ e. h)

-- steps 5 and 6 leave a record well formed: step 5 makes the phase fit, or the record is freed
pub settled_formed : (r : Record) (w : Arrived) → Going 2 r → well_formed (settled r w).after ≡ true
unfolding settled gapped closed
settled_formed r w h =
    each_case Formed_by (closed r) (Some (with_gap r Quiet)) _
    (λ e. acknowledged_formed _ w (going_formed r Quiet h (eqb-true r.known.0 r.reliable.0 e)))
    (λ e.
    each_case Formed_by (lost r w.oldest) None (Some (with_gap r (begun r.gap (standoff_of r))))
    (λ l. free_formed (freed r) refl)
    (λ l.
    acknowledged_formed _ w
    (going_formed r (begun r.gap (standoff_of r)) h
    (h.stands.phase r.reliable.0 r.known.0 (standoff_of r) (eqb-false r.known.0 r.reliable.0 e) (standoff_most r)))))
  where
    Formed_by : Option Record → Type 0
    Formed_by g = well_formed (settled_by g r w).after ≡ true

-- ---- the whole step

module _
    (r : Record)
    (w : Arrived)
    (formed-before : well_formed r ≡ true)
    (used : r.used ≡ true)
    (four : length r.places ≡ 4)
    (below : r.reliable.0 < turn)
    (held_below : HeldBelow r.places)
    (arrived-below : w.reliable.0 < turn)
    (fits : w.len ≤ most_contents)
  where
    -- steps 2 to 6 leave a record well formed
    pub taken_formed : judged r w.reliably w.total w.reliable ≡ Ok tt → well_formed (taken r w).after ≡ true
    unfolding taken heard
    taken_formed fresh =
        let f = formed r formed-before used in
        let n = fresh_ahead r w fresh in
        let second = heard_going r w.reliable f n.1 four below held_below in
        let third = placed_going (heard r w.reliable) w second arrived-below fits n.0 (heard_within r w.reliable f n.1) in
        settled_formed _ w (released_going _ third)

    -- and so does the whole step, if it is not refused
    pub wrapper_stays : (p : Plan) → stepped r w ≡ Ok p → well_formed p.after ≡ true
    unfolding stepped
    wrapper_stays p e = by (judged r w.reliably w.total w.reliable) refl e
      where
        by : (j : Result (Unit {0}) Refusal) → judged r w.reliably w.total w.reliable ≡ j → stepped_by j r w ≡ Ok p → well_formed p.after ≡ true
        by (Err x) e q = never (cc)
        by (Ok x) e q = let same : taken r w ≡ p = cc in rw (← same) (taken_formed e)
