-- Checks in an order: the number that is given is that of the first one that holds (01, "Refusal numbers"), exactly. And what came of a call that gives it.
-- Assumes nothing.
use Prim.Native.Nat.{ℕ}
use mathlib.Core.Logic.{◌↔◌}
use mathlib.Core.Path.{◌≡◌, refl, sym, ap, ◌∙◌}
use mathlib.Core.Bool.{Bool, true, false, cond, not}
use mathlib.Core.List.{List, [], ◌∷◌}
use lib.Dec.{eqb}
use borrow.Author.Tests.{not-true, eqb-false}
use Rattle.std.specs.Prelude.{Result, Ok, Err}
use Rattle.std.specs.List.{list_all}
use Rattle.refusal.specs.Numbers as numbers
use Rattle.refusal.specs.declared.Refusal.{Refusal}
use Rattle.record.proofs.Choices.{both, never}
use Rattle.member.specs.Messages.{number_of}
use Rattle.demands.specs.Refusals.{Check, first_number, First, here, later, None, none, also, RefusedBy}

-- ---- a number is given exactly if its condition holds and no earlier one does

pub first_is_given : (n : ℕ) (cs : List Check) → First n cs → first_number cs ≡ n
unfolding first_number
first_is_given n cs (here ds) = refl
first_is_given n cs (later m ds f) = first_is_given n ds f

first_by : (n m : ℕ) (b : Bool) (cs : List Check) → (first_number cs ≡ n → First n cs) → cond b m (first_number cs) ≡ n
    → First n (record { number = m; holds = b } ∷ cs)
first_by n m true cs rest e = rw e (here cs)
first_by n m false cs rest e = later m cs (rest e)

pub given_is_first : (n : ℕ) (cs : List Check) → (n ≡ 0 → ⊥) → first_number cs ≡ n → First n cs
unfolding first_number
given_is_first n [] z e = absurd (z (sym e))
given_is_first n (c ∷ cs) z e = first_by n c.number c.holds cs (given_is_first n cs z) e

-- ---- and nothing is refused exactly if no condition holds

pub none_is_given : (cs : List Check) → None cs → first_number cs ≡ 0
unfolding first_number
none_is_given cs none = refl
none_is_given cs (also m ds f) = none_is_given ds f

-- no number of a refusal is 0
abbrev pub numbered : List Check → Bool
numbered cs = list_all (λ c. not (eqb c.number 0)) cs

none_by : (m : ℕ) (b : Bool) (cs : List Check) → (m ≡ 0 → ⊥) → (first_number cs ≡ 0 → None cs) → cond b m (first_number cs) ≡ 0
    → None (record { number = m; holds = b } ∷ cs)
none_by m true cs z rest e = absurd (z e)
none_by m false cs z rest e = also m cs (rest e)

pub given_is_none : (cs : List Check) → numbered cs ≡ true → first_number cs ≡ 0 → None cs
unfolding first_number
given_is_none [] n e = none
given_is_none (c ∷ cs) n e =
    let b = both (not (eqb c.number 0)) (numbered cs) n in
    none_by c.number c.holds cs (eqb-false c.number 0 (not-true _ b.0)) (given_is_none cs b.1) e

-- ---- so it is for a call that gives the number of the first check that holds

module _ {n : ℕ} {cs : List Check} (given : n ≡ first_number cs) where
  pub refused_exactly : (k : ℕ) → (k ≡ 0 → ⊥) → (n ≡ k) ↔ First k cs
  refused_exactly k z = (λ e. given_is_first k cs z (sym given ∙ e), λ f. given ∙ first_is_given k cs f)

  pub accepted_exactly : numbered cs ≡ true → (n ≡ 0) ↔ None cs
  accepted_exactly all = (λ e. given_is_none cs all (sym given ∙ e), λ f. given ∙ none_is_given cs f)

-- ---- what came of a call

-- a call whose checks give the number k: it is refused by a refusal of that number, and o is what `stands` says of it; or it is accepted, and k is 0
pub data Told {O A : Type 0} (given : O → Result A Refusal) (stands : Refusal → O) : ℕ → O → Type 0 where
  refused : (why : Refusal) → Told given stands (numbers.number_of why) (stands why)
  accepted : (o : O) (a : A) → given o ≡ Ok a → Told given stands 0 o

module _ {O A : Type 0} (given : O → Result A Refusal) (stands : Refusal → O) (refuses : (why : Refusal) → given (stands why) ≡ Err why) where
  pub told_number : {k : ℕ} {o : O} → Told given stands k o → number_of (given o) ≡ k
  told_number (refused why) = rw (refuses why) refl
  told_number (accepted o a e) = rw e refl

  -- what is refused stands
  pub told_stands : {k : ℕ} {o : O} (why : Refusal) → Told given stands k o → given o ≡ Err why → o ≡ stands why
  told_stands why (refused w) e = let same : w ≡ why = cc (refuses w, e) in ap stands same
  told_stands why (accepted o a f) e = never (cc)

  pub told_refused : {k : ℕ} {o : O} (P : Refusal → O → Type 0) → ((why : Refusal) → P why (stands why)) → Told given stands k o → (k ≡ 0 → ⊥)
      → RefusedBy k (λ why. P why o)
  told_refused P p (refused why) z = (why, refl, p why)
  told_refused P p (accepted o a e) z = absurd (z refl)
