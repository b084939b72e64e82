-- What numbers and octets have to do with each other, each law once over the width. The pair of round trips is `number_octets` and
-- `octets_number`. Assumes nothing.
use mathlib.Core.Path.{◌≡◌, refl, sym, ap, ◌∙◌}
use Prim.Native.Nat.{ℕ, zero, suc, ◌+◌, ◌*◌, ◌^◌, ◌/◌, ◌%◌, ◌<◌, ◌≤◌}
use native.Mathlib.Nat.{zero-add, div-add-mod', suc-add, mul_comm, mul_assoc, pow-suc, mod-one, mod-eq_of_lt, add_assoc, add-mul, div-div-eq-div-mul, mul-add-div_right, mul-add-mod_self_right}
use native.Mathlib.Omega.{arith}
use native.Mathlib.Numerals.{add-one}
use mathlib.Core.List.{List, [], ◌∷◌, ◌++◌}
use lib.ListN.{length, get_or, drop, length-append, length-drop}
use lib.Seq.{length-take-le, drop-cons, take-add, drop-drop}
use lib.Arith.{mod-mul, digits_div, digits_lt}
use lib.Pow.{pow-add}
use lib.Dec.{lit<}
use Rattle.octets.specs.Octets.{Octets, number, octets, part, number_at}

pub above_zero : (n : ℕ) → 0 < 256 ^ n
above_zero zero = lit< tt
above_zero (suc n) = let h : 0 < 256 ^ n = above_zero n in rw pow-suc (omega arith)

pub length_octets : (n x : ℕ) → length (octets n x) ≡ n
unfolding octets
length_octets zero x = refl
length_octets (suc n) x = ap suc (length_octets n x)

-- ---- side by side

-- the number of octets that stand behind others
pub number_append : (xs ys : List ℕ) → number (xs ++ ys) ≡ number xs * 256 ^ length ys + number ys
unfolding number
number_append [] ys = omega arith
number_append (x ∷ xs) ys =
    rw (number_append xs ys, length-append xs ys, pow-add, ← mul_assoc)
    (sym (rw (add-mul, add_assoc)))

-- a number in n + m octets: its upper n, then its lower m
pub octets_append : (n m x : ℕ) → octets (n + m) x ≡ octets n (x / 256 ^ m) ++ octets m x
unfolding octets
octets_append zero m x = rw zero-add
octets_append (suc n) m x =
    rw (suc-add, octets_append n m x)
    (ap (λ (k : ℕ). (k % 256) ∷ (octets n (x / 256 ^ m) ++ octets m x)) (rw (pow-add, mul_comm) (sym (div-div-eq-div-mul x (256 ^ m) (256 ^ n)))))

-- ---- cut off

-- what does not fit in n octets is cut off
octets_cut : (n a x : ℕ) → octets n (a * 256 ^ n + x) ≡ octets n x
unfolding octets
octets_cut zero a x = refl
octets_cut (suc n) a x =
    let e : a * 256 ^ suc n ≡ (a * 256) * 256 ^ n = rw (pow-suc, mul_comm (256 ^ n) 256) (sym (mul_assoc a 256 (256 ^ n))) in
    rw (e, octets_cut n (a * 256) x, mul-add-div_right (above_zero n), mul-add-mod_self_right)

pub octets_mod : (n x : ℕ) → octets n (x % 256 ^ n) ≡ octets n x
octets_mod n x = sym (octets_cut n (x / 256 ^ n) (x % 256 ^ n)) ∙ ap (octets n) (div-add-mod' x (256 ^ n))

-- ---- the round trips

number_octets_mod : (n x : ℕ) → number (octets n x) ≡ x % 256 ^ n
unfolding number octets
number_octets_mod zero x = sym (mod-one x)
number_octets_mod (suc n) x =
    rw (number_octets_mod n x, length_octets n x, pow-suc, mul_comm (256 ^ n) 256)
    (sym (mod-mul x (lit< tt) (above_zero n)))

-- a number that fits in n octets, written and read
pub number_octets : (n x : ℕ) → x < 256 ^ n → number (octets n x) ≡ x
number_octets n x h = number_octets_mod n x ∙ mod-eq_of_lt h

pub octets_tail : (y : ℕ) (ys : List ℕ) → Octets (y ∷ ys) → Octets ys
unfolding Octets
octets_tail y ys o i = o (suc i)

pub number_below : (ys : List ℕ) → Octets ys → number ys < 256 ^ length ys
unfolding number Octets
number_below [] o = lit< tt
number_below (y ∷ ys) o =
    rw (pow-suc, mul_comm (256 ^ length ys) 256)
    (digits_lt (o 0) (number_below ys (octets_tail y ys o)))

octets_number_length : (ys : List ℕ) → Octets ys → octets (length ys) (number ys) ≡ ys
unfolding number octets Octets
octets_number_length [] o = refl
octets_number_length (y ∷ ys) o =
    rw (octets_cut (length ys) y (number ys), digits_div y (number_below ys (octets_tail y ys o)), mod-eq_of_lt (o 0), octets_number_length ys (octets_tail y ys o))

-- n octets, read and written
pub octets_number : (n : ℕ) (ys : List ℕ) → length ys ≡ n → Octets ys → octets n (number ys) ≡ ys
octets_number n ys e o = rw (← e) (octets_number_length ys o)

-- ---- a part of a list

pub part_add : (s : List ℕ) (at n m : ℕ) → part s at (n + m) ≡ part s at n ++ part s (at + n) m
part_add s at n m = take-add n m (drop at s) ∙ rw drop-drop

pub part_cons : (s : List ℕ) (at n : ℕ) → at < length s → part s at (suc n) ≡ get_or s at 0 ∷ part s (at + 1) n
part_cons s at n h = rw (drop-cons s at 0 h, add-one at)

pub length_part : (s : List ℕ) (at n : ℕ) → at + n ≤ length s → length (part s at n) ≡ n
length_part s at n h = length-take-le n (drop at s) (rw length-drop (omega arith))

-- the number in n + m octets from those in the first n and in the other m
pub number_halves : (s : List ℕ) (at n m : ℕ) → at + n + m ≤ length s
    → number_at s at n * 256 ^ m + number_at s (at + n) m ≡ number_at s at (n + m)
number_halves s at n m h = sym (rw (part_add s at n m, number_append, length_part s (at + n) m h))

-- n octets of s, the k-th behind `at` and those after it, one by one
abbrev each : List ℕ → ℕ → ℕ → ℕ → List ℕ
each s at k zero = []
each s at k (suc n) = get_or s (at + k) 0 ∷ each s at (suc k) n

part_each : (s : List ℕ) (at k n : ℕ) → at + k + n ≤ length s → part s (at + k) n ≡ each s at k n
part_each s at k zero h = refl
part_each s at k (suc n) h =
    part_cons s (at + k) n (omega arith)
    ∙ ap (λ (j : ℕ). get_or s (at + k) 0 ∷ part s j n) (omega arith)
    ∙ ap (λ (os : List ℕ). get_or s (at + k) 0 ∷ os) (part_each s at (suc k) n (omega arith))

number_each : (s : List ℕ) (at n : ℕ) → at + suc n ≤ length s → number_at s at (suc n) ≡ number (get_or s at 0 ∷ each s at 1 n)
number_each s at n h =
    ap number (part_cons s at n (omega arith) ∙ ap (λ (os : List ℕ). get_or s at 0 ∷ os) (part_each s at 1 n (omega arith)))

-- so what the library makes of them is their number, at each width
pub number_one : (s : List ℕ) (at : ℕ) → at < length s → get_or s at 0 ≡ number_at s at 1
unfolding number
number_one s at h = omega (arith, number_each s at 0 (omega arith))

pub number_two : (s : List ℕ) (at : ℕ) → at + 2 ≤ length s → get_or s at 0 * 256 + get_or s (at + 1) 0 ≡ number_at s at 2
unfolding number
number_two s at h = omega (arith, number_each s at 1 (omega arith))

pub number_four : (s : List ℕ) (at : ℕ) → at + 4 ≤ length s
    → get_or s at 0 * 16777216 + get_or s (at + 1) 0 * 65536 + get_or s (at + 2) 0 * 256 + get_or s (at + 3) 0 ≡ number_at s at 4
unfolding number
number_four s at h = omega (arith, number_each s at 3 (omega arith))

pub number_eight : (s : List ℕ) (at : ℕ) → at + 8 ≤ length s
    → get_or s at 0 * 72057594037927936 + get_or s (at + 1) 0 * 281474976710656 + get_or s (at + 2) 0 * 1099511627776 + get_or s (at + 3) 0 * 4294967296
    + get_or s (at + 4) 0 * 16777216 + get_or s (at + 5) 0 * 65536 + get_or s (at + 6) 0 * 256 + get_or s (at + 7) 0 ≡ number_at s at 8
unfolding number
number_eight s at h = omega (arith, number_each s at 7 (omega arith))
