-- From the machine's signed numbers of 32 bits to `distance` of specs/: the bits of what counts ahead, read as a signed number, are the distance; and the same
-- by arithmetic, below the half turn and from it on. Assumes nothing.
use Rattle.std.proofs.Common.{◌≡◌, ℕ, zero, suc, ◌-◌, ◌<◌, ◌≤◌, ℤ, pos, negsuc, ◌-ℤ◌, cond, nat_lt, arith, refl, ap, ◌∙◌, zero-add, to_z-of_z, w32, Fits, SFits, to_z, of_z, le-ltb, lt-ltb}
use mir.Facts.{to_z_pos}
use mir.ValLaws.{of_z-to_z}
use Rattle.counter.specs.Distance.{ahead, half, distance}

-- from the half turn on, what is missing to a whole turn less one
less_one : (n : ℕ) → 4294967296 - suc n ≡ 4294967295 - n
less_one n = omega arith

-- what is read of the bits of n, and read again, is the distance if n counts ahead from the old to the new number
pub read_signed : (old new n : ℕ) (z : ℤ) → Fits w32 n → z ≡ to_z w32 n → n ≡ ahead old new → to_z w32 (of_z w32 z) ≡ distance old new
unfolding distance
read_signed old new n z f i e =
    ap (λ (x : ℤ). to_z w32 (of_z w32 x)) i
    ∙ ap (λ (x : ℕ). to_z w32 x) (of_z-to_z w32 n f)
    ∙ (rw (← e) (ap (λ (k : ℕ). cond (nat_lt n half) (pos n) (negsuc k)) (less_one n)))

-- ---- by arithmetic

-- −1 − m is the number whose bits are those of m turned over
minus_one_less : (m : ℕ) → negsuc 0 -ℤ pos m ≡ negsuc m
minus_one_less zero = refl
minus_one_less (suc m) = ap (λ (k : ℕ). negsuc (suc k)) (zero-add m)

-- the same where m is read from its bits, of which the top one is clear
behind : (m : ℕ) → m < 2147483648 → negsuc 0 -ℤ to_z w32 m ≡ negsuc m
behind m h = ap (λ (z : ℤ). negsuc 0 -ℤ z) (to_z_pos w32 h) ∙ minus_one_less m

-- so that the difference fits the 32 bits, down to the half turn itself
pub behind_fits : (m : ℕ) → m < 2147483648 → SFits w32 (negsuc 0 -ℤ to_z w32 m)
behind_fits m h = rw (behind m h) (record { sfits = h })

-- below the half turn the numbers ahead are read as they are
pub read_ahead : (old new n : ℕ) → n ≡ ahead old new → n < 2147483648 → to_z w32 n ≡ distance old new
unfolding distance
read_ahead old new n e h = rw (← e) (to_z_pos w32 h ∙ (rw (lt-ltb n 2147483648 h)))

-- from the half turn on it is −1 less what is missing to the last number of a turn
pub read_behind : (old new n : ℕ) → n ≡ ahead old new → 2147483648 ≤ n
    → to_z w32 (of_z w32 (negsuc 0 -ℤ to_z w32 (4294967295 - n))) ≡ distance old new
unfolding distance
read_behind old new n e h =
    rw (← e)
    (to_z-of_z (behind_fits (4294967295 - n) (omega arith))
    ∙ behind (4294967295 - n) (omega arith)
    ∙ (rw (le-ltb n 2147483648 h)))
