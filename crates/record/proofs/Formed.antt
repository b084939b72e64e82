-- What a well-formed record is, part by part and in ℕ, for the crates that step one: `formed` takes `well_formed` apart, and `well_formed_lem`
-- puts it together again. Assumes nothing.
use Prim.Native.Nat.{ℕ, zero, suc, ◌*◌, ◌<◌, ◌≤◌}
use mathlib.Core.Bool.{Bool, true, false, cond, not, ◌&&◌, false≢true}
use mathlib.Core.List.{List, [], ◌∷◌}
use mathlib.Core.Logic.{◌≢◌, ◌↔◌}
use mathlib.Core.Path.{◌≡◌, refl, sym, ap, ◌∙◌}
use native.Mathlib.Omega.{arith}
use lib.Dec.{eqb}
use borrow.Author.Tests.{ltb-true, leb-true, eqb-true, eqb-false, lt-ltb, le-leb, eq-eqb, ne_eqb, not-true}
use Rattle.counter.specs.Distance.{ahead}
use Rattle.counter.specs.declared.Reliable.{Reliable}
use Rattle.counter.proofs.Distances.{at_least, test_not_farther}
use Rattle.record.specs.Profile.{nak_timeout, max_retries}
use Rattle.record.specs.Legal.{legal_names, legal_parameters}
use Rattle.record.specs.Searches.{all_apart}
use Rattle.record.specs.Places.{place_at}
use Rattle.record.specs.WellFormed.{most_contents, held_right, apart, apart_from, held_apart, held_all_right, closed, gap_right, terms_right, well_formed}
use Rattle.record.specs.declared.Gap.{Gap}
use Rattle.record.specs.declared.Gap.TheVariants.{Quiet, Standoff, Waiting}
use Rattle.record.specs.declared.Place.{Place}
use Rattle.record.specs.declared.Terms.{Terms}
use Rattle.record.specs.declared.Record.{Record}
use Rattle.record.proofs.Choices.{both, and}

-- ---- the parts

-- a held wrapper with R and K: two or more ahead of R, not past K, contents that fit
pub record Held (reliable known : ℕ) (p : Place) : Type 0 where
  pub beyond : 2 ≤ ahead reliable p.reliable.0
  pub within : ahead reliable p.reliable.0 ≤ ahead reliable known
  pub contents : p.len ≤ most_contents

-- every place is free or holds such a one
abbrev pub HeldAll : ℕ → ℕ → List Place → Type 0
HeldAll reliable known ps = (i : ℕ) → (place_at ps i).used ≡ true → Held reliable known (place_at ps i)

-- no two places hold the same reliable number
abbrev pub Apart : List Place → Type 0
Apart ps =
    (i j : ℕ) → (place_at ps i).used ≡ true → (place_at ps j).used ≡ true → (place_at ps i).reliable.0 ≡ (place_at ps j).reliable.0 → i ≡ j

-- a phase with R and K
abbrev pub Phase : ℕ → ℕ → Terms → Gap → Type 0
Phase reliable known t Quiet = known ≡ reliable
Phase reliable known t (Standoff left count) = (known ≢ reliable) × (count < max_retries) × (left ≤ t.maxwait)
Phase reliable known t (Waiting left count) =
    (known ≢ reliable) × (1 ≤ count) × (count ≤ max_retries) × (left ≤ nak_timeout t.expiry)

-- what is asked of a used record
pub record Formed (r : Record) : Type 0 where
  pub legal_names : legal_names r.terms.channel r.terms.mid ≡ true
  pub legal_parameters : legal_parameters r.terms.modulus r.terms.expiry ≡ true
  pub reciprocal : r.terms.reciprocal ≢ 0
  pub known : ahead r.reliable.0 r.known.0 < 2147483648
  pub held : HeldAll r.reliable.0 r.known.0 r.places
  pub apart : Apart r.places
  pub gap : Phase r.reliable.0 r.known.0 r.terms r.gap
  pub idle : r.idle < r.terms.expiry * 1000

-- ---- tests and what they say

-- of what is used the test is asked, and of what is free none
asked : (t b : Bool) → cond t b true ≡ true → t ≡ true → b ≡ true
asked t b w u = rw u at w

asked_if : (t b : Bool) → (t ≡ true → b ≡ true) → cond t b true ≡ true
asked_if true b f = f refl
asked_if false b f = refl

-- a number that is not 0, by its test
not_zero : (n : ℕ) → not (eqb n 0) ≡ true → n ≢ 0
not_zero n e = eqb-false n 0 (not-true (eqb n 0) e)

zero_not : (n : ℕ) → n ≢ 0 → not (eqb n 0) ≡ true
zero_not n h = rw (ne_eqb n 0 h)

-- ---- held wrappers

module _ (r k : Reliable) (known : ahead r.0 k.0 < 2147483648) where
  held_is : (p : Place) → held_right r k p ≡ true → p.used ≡ true → Held r.0 k.0 p
  unfolding held_right
  held_is p w u =
      let all = both _ _ (asked p.used _ w u) in
      let numbers = both _ _ all.0 in
      let near = (at_least 2 r.0 p.reliable.0).0 numbers.0 in
      record {
        beyond = near.0;
        within = leb-true _ _ (rw (test_not_farther r.0 p.reliable.0 r.0 k.0 near.1 known) at numbers.1);
        contents = leb-true _ _ all.1;
      }

  is_held : (p : Place) → (p.used ≡ true → Held r.0 k.0 p) → held_right r k p ≡ true
  unfolding held_right
  is_held p f =
      asked_if p.used _
      (λ u.
      let h = f u in
      let near : ahead r.0 p.reliable.0 < 2147483648 = omega (arith, h.within) in
      and _ _
      (and _ _
      ((at_least 2 r.0 p.reliable.0).1 (h.beyond, near))
      (test_not_farther r.0 p.reliable.0 r.0 k.0 near known ∙ le-leb _ _ h.within))
      (le-leb _ _ h.contents))

  held_all : (ps : List Place) → held_all_right r k ps ≡ true → HeldAll r.0 k.0 ps
  unfolding held_all_right
  held_all [] w i u = absurd (false≢true u)
  held_all (p ∷ ps) w zero u = held_is p (both _ _ w).0 u
  held_all (p ∷ ps) w (suc i) u = held_all ps (both (held_right r k p) _ w).1 i u

  all_held : (ps : List Place) → HeldAll r.0 k.0 ps → held_all_right r k ps ≡ true
  unfolding held_all_right
  all_held [] f = refl
  all_held (p ∷ ps) f = and _ _ (is_held p (f 0)) (all_held ps (λ i. f (suc i)))

-- ---- held numbers differ

-- each place is apart from each later one, in the words of the search that decides it
pub held_apart_is : (ps : List Place) → all_apart apart ps ≡ held_apart ps
unfolding all_apart held_apart apart_from
held_apart_is [] = refl
held_apart_is (p ∷ ps) = rw (held_apart_is ps)

apart_is : (p q : Place) → apart p q ≡ true → p.used ≡ true → q.used ≡ true → p.reliable.0 ≢ q.reliable.0
unfolding apart
apart_is p q w u v e = no p.used q.used _ u v (eq-eqb _ _ e) w
  where
    no : (a b c : Bool) → a ≡ true → b ≡ true → c ≡ true → not (a && b && c) ≡ true → ⊥
    no a b c e f g w = false≢true (rw (e, f, g) at w)

is_apart_lem : (p q : Place) → (p.used ≡ true → q.used ≡ true → p.reliable.0 ≢ q.reliable.0) → apart p q ≡ true
unfolding apart
is_apart_lem p q f = yes p.used q.used _ (λ u v e. f u v (eqb-true _ _ e))
  where
    yes : (a b c : Bool) → (a ≡ true → b ≡ true → c ≢ true) → not (a && b && c) ≡ true
    yes false b c f = refl
    yes true false c f = refl
    yes true true false f = refl
    yes true true true f = absurd (f refl refl refl)

apart_from_lem : (p : Place) (ps : List Place) → apart_from p ps ≡ true → p.used ≡ true → (i : ℕ) → (place_at ps i).used ≡ true
    → p.reliable.0 ≢ (place_at ps i).reliable.0
unfolding apart_from
apart_from_lem p [] w u i v = absurd (false≢true v)
apart_from_lem p (q ∷ ps) w u zero v = apart_is p q (both _ _ w).0 u v
apart_from_lem p (q ∷ ps) w u (suc i) v = apart_from_lem p ps (both (apart p q) _ w).1 u i v

from_apart : (p : Place) (ps : List Place)
    → (p.used ≡ true → (i : ℕ) → (place_at ps i).used ≡ true → p.reliable.0 ≢ (place_at ps i).reliable.0)
    → apart_from p ps ≡ true
unfolding apart_from
from_apart p [] f = refl
from_apart p (q ∷ ps) f = and _ _ (is_apart_lem p q (λ u v. f u 0 v)) (from_apart p ps (λ u i v. f u (suc i) v))

apart_all : (ps : List Place) → held_apart ps ≡ true → Apart ps
unfolding held_apart
apart_all [] w i j u v e = absurd (false≢true u)
apart_all (p ∷ ps) w zero zero u v e = refl
apart_all (p ∷ ps) w zero (suc j) u v e = absurd (apart_from_lem p ps (both _ _ w).0 u j v e)
apart_all (p ∷ ps) w (suc i) zero u v e = absurd (apart_from_lem p ps (both _ _ w).0 v i u (sym e))
apart_all (p ∷ ps) w (suc i) (suc j) u v e = ap suc (apart_all ps (both (apart_from p ps) _ w).1 i j u v e)

are_apart : (ps : List Place) → Apart ps → held_apart ps ≡ true
unfolding held_apart
are_apart [] f = refl
are_apart (p ∷ ps) f =
    and _ _
    (from_apart p ps (λ u i v e. let z : 0 ≡ suc i = f 0 (suc i) u v e in omega arith))
    (are_apart ps (λ i j u v e. let s : suc i ≡ suc j = f (suc i) (suc j) u v e in omega arith))

-- ---- the phase

module _ (reliable known : ℕ) (t : Terms) where
  phase_is : (g : Gap) → gap_right g (eqb known reliable) t ≡ true → Phase reliable known t g
  unfolding gap_right
  phase_is Quiet w = eqb-true known reliable w
  phase_is (Standoff left count) w =
      let all = both _ _ w in
      let counted = both _ _ all.0 in
      (eqb-false known reliable (not-true _ counted.0), ltb-true _ _ counted.1, leb-true _ _ all.1)
  phase_is (Waiting left count) w =
      let all = both _ _ w in
      let counted = both _ _ all.0 in
      let some = both _ _ counted.0 in
      (eqb-false known reliable (not-true _ some.0), leb-true _ _ some.1, leb-true _ _ counted.1, leb-true _ _ all.1)

  is_phase : (g : Gap) → Phase reliable known t g → gap_right g (eqb known reliable) t ≡ true
  unfolding gap_right
  is_phase Quiet e = eq-eqb known reliable e
  is_phase (Standoff left count) f = rw (ne_eqb known reliable f.0, lt-ltb _ _ f.1, le-leb _ _ f.2)
  is_phase (Waiting left count) f =
      rw (ne_eqb known reliable f.0, le-leb _ _ f.1, le-leb _ _ f.2, le-leb _ _ f.3)

-- ---- the record

-- nothing is asked of a free record
pub free_formed : (r : Record) → r.used ≡ false → well_formed r ≡ true
unfolding well_formed
free_formed r u = rw u

pub formed : (r : Record) → well_formed r ≡ true → r.used ≡ true → Formed r
unfolding well_formed terms_right closed
formed r w u =
    let to_idle = both _ _ (asked r.used _ w u) in
    let to_gap = both _ _ to_idle.0 in
    let to_apart = both _ _ to_gap.0 in
    let to_held = both _ _ to_apart.0 in
    let to_known = both _ _ to_held.0 in
    let to_terms = both _ _ to_known.0 in
    let to_legal = both _ _ to_terms.0 in
    let known = ((at_least 0 r.reliable.0 r.known.0).0 to_known.1).1 in
    record {
      legal_names = to_legal.0;
      legal_parameters = to_legal.1;
      reciprocal = not_zero _ to_terms.1;
      known = known;
      held = held_all r.reliable r.known known r.places to_held.1;
      apart = apart_all r.places to_apart.1;
      gap = phase_is _ _ _ r.gap to_gap.1;
      idle = ltb-true _ _ to_idle.1;
    }

pub well_formed_lem : {r : Record} → Formed r → well_formed r ≡ true
unfolding well_formed terms_right closed
well_formed_lem {r} f =
    asked_if r.used _
    (λ u.
    and _ _
    (and _ _
    (and _ _
    (and _ _
    (and _ _
    (and _ _ (and _ _ f.legal_names f.legal_parameters) (zero_not _ f.reciprocal))
    ((at_least 0 r.reliable.0 r.known.0).1 (omega arith, f.known)))
    (all_held r.reliable r.known f.known r.places f.held))
    (are_apart r.places f.apart))
    (is_phase _ _ _ r.gap f.gap))
    (lt-ltb _ _ f.idle))

-- ---- what follows

module _ {r : Record} (f : Formed r) where
  pub has_modulus : 0 < r.terms.modulus
  unfolding legal_parameters
  has_modulus = let h : r.terms.modulus ≢ 0 = not_zero _ (both _ _ f.legal_parameters).0 in omega arith

  pub standoff_count : (left count : ℕ) → r.gap ≡ Standoff left count → count < max_retries
  standoff_count left count e = (rw e at f.gap).1

  pub quiet_exactly : (r.gap ≡ Quiet) ↔ (r.known.0 ≡ r.reliable.0)
  quiet_exactly = (λ e. rw e at f.gap, only r.gap f.gap)
    where
      only : (g : Gap) → Phase r.reliable.0 r.known.0 r.terms g → r.known.0 ≡ r.reliable.0 → g ≡ Quiet
      only Quiet p e = refl
      only (Standoff left count) p e = absurd (p.0 e)
      only (Waiting left count) p e = absurd (p.0 e)
