-- Tests of a signed number of 32 bits as the machine makes them, by its bits, and as definitions say them, by the number. Assumes nothing.
use Rattle.std.proofs.Common.{◌≡◌, ℕ, Bool, true, false, not, ltb, leb, ℤ, pos, negsuc, refl, w32, to_z, of_z, ltb-false, ltb-true, le-leb}
use lib.Signed.{lt_z, le_z}
use borrow.Author.Tests.{lt-leb}

-- what is read back of x's bits, which is x if x fits 32 bits
abbrev pub read : ℤ → ℤ
read x = to_z w32 (of_z w32 x)

-- ≤ is what < the other way round denies
turned : (a b : ℕ) → leb b a ≡ not (ltb a b)
turned a b = by (ltb a b) refl
  where
    by : (t : Bool) → ltb a b ≡ t → leb b a ≡ not t
    by true e = lt-leb b a (ltb-true a b e)
    by false e = le-leb b a (ltb-false a b e)

pub not_below : (x y : ℤ) → le_z y x ≡ not (lt_z x y)
not_below (pos a) (pos b) = turned a b
not_below (pos a) (negsuc b) = refl
not_below (negsuc a) (pos b) = refl
not_below (negsuc a) (negsuc b) = turned b a

pub not_above : (x y : ℤ) → lt_z y x ≡ not (le_z x y)
not_above x y = by (lt_z y x) (le_z x y) (not_below y x)
  where
    by : (a b : Bool) → b ≡ not a → a ≡ not b
    by true b e = rw e
    by false b e = rw e
