-- The search for the lowest element that passes a test (`position`): what the loop of `lowest` knows at each turn, and which elements pass where none is
-- found; and what the loop of `all_apart` knows. Assumes nothing.
use Prim.Native.Nat.{ℕ, ◌+◌, ◌<◌, ◌≤◌}
use mathlib.Core.Bool.{Bool, true, false, cond}
use mathlib.Core.List.{List, [], ◌∷◌}
use mathlib.Core.Path.{◌≡◌, refl, sym}
use native.Mathlib.Numerals.{add-one}
use native.Mathlib.Omega.{arith}
use lib.Dec.{ltb}
use lib.ListN.{length, get_or, drop, drop_of_length-le}
use lib.Seq.{drop-cons}
use borrow.Author.Tests.{ltb-false, le-ltb}
use Rattle.std.specs.Prelude.{position, Some, None}
use Rattle.std.specs.List.{position_from, position_or_len, list_all}
use Rattle.std.proofs.lemmas.Iterator.Adapters.{position_from-zero}
use Rattle.std.proofs.lemmas.List.Sums.{fails_before_first, position_or_len_is}
use Rattle.record.specs.Searches.{all_apart}
use Rattle.record.proofs.Choices.{never}

module _ {A : Type 0} (test : A → Bool) (xs : List A) where
  -- ---- a loop over the list

  -- the elements from i on decide
  abbrev pub Left : ℕ → Type 0
  Left i = position test xs ≡ position_from test i (drop i xs)

  pub left_at_first : Left 0
  left_at_first = position_from-zero test xs

  module _ (i : ℕ) (left : Left i) where
    -- x is the element that is looked at, and `answer` what is said of it
    module _ (x : A) (h : i < length xs) (at : x ≡ get_or xs i x) (answer : Bool) (says : answer ≡ test x) where
      this : get_or xs i x ≡ x
      this = sym at

      pub found_here : answer ≡ true → Some i ≡ position test xs
      found_here p = rw (left, drop-cons xs i x h, this, ← says, p)

      pub found_on : answer ≡ false → Left (i + 1)
      found_on p = rw (left, drop-cons xs i x h, this, ← says, p, add-one i)

    pub found_nowhere : length xs ≤ i → None ≡ position test xs
    found_nowhere h = rw (left, drop_of_length-le xs h)

  -- ---- what it says that none is found

  -- none passes
  pub none_passes : position test xs ≡ None → (k : ℕ) (d : A) → k < length xs → test (get_or xs k d) ≡ false
  none_passes e k d l = by (ltb (position_or_len test xs) (length xs)) refl e
    where
      by : (b : Bool) → ltb (position_or_len test xs) (length xs) ≡ b → cond b (Some (position_or_len test xs)) None ≡ None
          → test (get_or xs k d) ≡ false
      by true h f = never (cc)
      by false h f = fails_before_first test xs k d (omega (arith, ltb-false _ _ h))

pub none_found : {A : Type 0} (test : A → Bool) (xs : List A) → ((k : ℕ) (d : A) → k < length xs → test (get_or xs k d) ≡ false)
    → position test xs ≡ None
none_found test [] f = refl
none_found test (x ∷ xs) f =
    let all = position_or_len_is test (x ∷ xs) (length (x ∷ xs)) x (omega arith) (λ k l. f k x l) (λ l. absurd (omega arith)) in
    let same : length (x ∷ xs) ≤ length (x ∷ xs) = omega arith in
    rw (all, le-ltb _ _ same)

-- ---- each element and each later one

-- x is the first of the elements that decide, and `answer` whether it is apart from each later one
module _ {A : Type 0} (test : A → A → Bool) (x : A) (later left all : List A) (decide : all_apart test all ≡ all_apart test left) (first : left ≡ x ∷ later)
    (answer : Bool) (says : answer ≡ list_all (test x) later) where
  pub apart_not : answer ≡ false → false ≡ all_apart test all
  unfolding all_apart
  apart_not p = rw (decide, first, ← says, p)

  pub apart_on : answer ≡ true → all_apart test all ≡ all_apart test later
  unfolding all_apart
  apart_on p = rw (decide, first, ← says, p)
