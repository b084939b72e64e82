-- Facts on distances, for the crates over the counters. They are stated over plain numbers, so that each stands once and serves both counters:
-- in ℕ for how many numbers the new one is `ahead`, where omega reasons, and in ℤ for the distance. Assumes nothing.
use Rattle.std.proofs.Common.{◌≡◌, ℕ, zero, suc, ◌+◌, ◌-◌, ◌%◌, ◌<◌, ◌≤◌, Bool, true, false, cond, T, ltb, leb, ◌≢◌, ◌⊎◌, ◌↔◌, ℤ, pos, negsuc, ◌+ℤ◌, neg_ℤ, sym, refl, ap, ◌∙◌, inl, inr, ⊎_elim, true≢false, arith, le→leb, leb→le, ltb-false, ltb-true, le-ltb, lt-ltb, le-leb, leb-false, leb-true}
use mathlib.Core.Bool.{false≢true}
use mathlib.Core.Logic.Iff
use mathlib.Core.Logic.{⊎_map}
use native.Mathlib.Nat.{add-mod, add-mod_right}
use lib.IntN.{suc_ℤ, +ℤ_one, pos-ne-negsuc}
use lib.Signed.{le_z, lt_z}
use borrow.Author.Tests.{lt-leb}
use Rattle.counter.specs.Distance.{turn, ahead, signed, distance}
use Rattle.counter.specs.Steps.{before, next, previous}
use Rattle.counter.proofs.TheOne.{distance_is, distance_the_one, sum_is, turned_is}

-- ---- how many numbers ahead

-- fewer than a full turn
pub ahead_below : (a b : ℕ) → ahead a b < turn
ahead_below a b = omega arith

-- counting up from a by so many comes to b, past zero once or not at all
pub ahead_turn : (a b : ℕ) → a < turn → b < turn → (ahead a b + a ≡ b) ⊎ (ahead a b + a ≡ b + turn)
ahead_turn a b ha hb = by (ltb b a) refl
  where
    by : (t : Bool) → ltb b a ≡ t → (ahead a b + a ≡ b) ⊎ (ahead a b + a ≡ b + turn)
    by true e = let h : b < a = ltb-true b a e in inr (omega arith)
    by false e = let h : a ≤ b = ltb-false b a e in inl (omega arith)

-- none exactly at equal numbers
pub ahead_zero : (a b : ℕ) → a < turn → b < turn → (ahead a b ≡ 0) ↔ (a ≡ b)
ahead_zero a b ha hb = omega arith

-- two ways add modulo 2^32
pub ahead_add : (a b c : ℕ) → a < turn → b < turn → (ahead a b + ahead b c) % turn ≡ ahead a c
ahead_add a b c ha hb =
    let e : b + turn - a + (c + turn - b) ≡ c + turn - a + turn = omega arith in
    sym (add-mod (b + turn - a) (c + turn - b) turn)
    ∙ ap (λ (n : ℕ). n % turn) e
    ∙ add-mod_right (c + turn - a) turn

-- and as they are if b lies on the way from a up to c
pub ahead_between : (a b c : ℕ) → a < turn → b < turn → ahead a b ≤ ahead a c → ahead a b + ahead b c ≡ ahead a c
ahead_between a b c ha hb h =
    no_turn (ahead a b) (ahead b c) (ahead a c) (ahead_below b c) h (ahead_add a b c ha hb)
  where
    no_turn : (x y z : ℕ) → y < turn → x ≤ z → (x + y) % turn ≡ z → x + y ≡ z
    no_turn x y z hy h e = omega arith

-- ---- from numbers ahead to a distance and back

-- below the half turn the signed number is the number
pub signed_below : (n : ℕ) → n < 2147483648 → signed n ≡ pos n
signed_below n h = rw (lt-ltb n 2147483648 h)

-- from the half turn on it is below 0
pub signed_from_half : (n : ℕ) → 2147483648 ≤ n → signed n ≡ negsuc (4294967295 - n)
signed_from_half n h = rw (le-ltb n 2147483648 h)

-- n numbers ahead are the distance n, if they are fewer than half a turn
pub distance_ahead : (a b n : ℕ) → ahead a b ≡ n → n < 2147483648 → distance a b ≡ pos n
unfolding distance
distance_ahead a b n e h = rw e (signed_below n h)

-- n + 1 numbers short of the full turn are the distance −(n + 1), if they are half a turn or fewer
pub distance_behind : (a b n : ℕ) → ahead a b + n ≡ 4294967295 → n < 2147483648 → distance a b ≡ negsuc n
unfolding distance
distance_behind a b n e h =
    let f : 4294967295 - ahead a b ≡ n = omega arith in
    signed_from_half (ahead a b) (omega arith) ∙ ap negsuc f

-- only they are that distance: what `distance_ahead` asks follows from its answer
pub ahead_is : (a b n : ℕ) → distance a b ≡ pos n → (ahead a b ≡ n) × (n < 2147483648)
unfolding distance
ahead_is a b n e = by (ltb (ahead a b) 2147483648) refl
  where
    by : (t : Bool) → ltb (ahead a b) 2147483648 ≡ t → (ahead a b ≡ n) × (n < 2147483648)
    by true p =
        let h : ahead a b < 2147483648 = ltb-true (ahead a b) 2147483648 p in
        let q : pos (ahead a b) ≡ pos n = rw p at e in
        let f : ahead a b ≡ n = cc in
        omega arith
    by false p =
        let q : negsuc (4294967295 - ahead a b) ≡ pos n = rw p at e in
        absurd (pos-ne-negsuc n (4294967295 - ahead a b) (sym q))

-- and what `distance_behind` asks from its answer
pub behind_is : (a b n : ℕ) → distance a b ≡ negsuc n → (ahead a b + n ≡ 4294967295) × (n < 2147483648)
unfolding distance
behind_is a b n e = by (ltb (ahead a b) 2147483648) refl
  where
    by : (t : Bool) → ltb (ahead a b) 2147483648 ≡ t → (ahead a b + n ≡ 4294967295) × (n < 2147483648)
    by true p =
        let q : pos (ahead a b) ≡ negsuc n = rw p at e in
        absurd (pos-ne-negsuc (ahead a b) n q)
    by false p =
        let h : 2147483648 ≤ ahead a b = ltb-false (ahead a b) 2147483648 p in
        let q : negsuc (4294967295 - ahead a b) ≡ negsuc n = rw p at e in
        let f : 4294967295 - ahead a b ≡ n = cc in
        omega (arith, ahead_below a b)

-- 0 exactly at equal numbers
pub distance_zero : (a b : ℕ) → a < turn → b < turn → (distance a b ≡ pos 0) ↔ (a ≡ b)
distance_zero a b ha hb = (
  λ e. (ahead_zero a b ha hb).0 (ahead_is a b 0 e).0,
  λ e. distance_ahead a b 0 ((ahead_zero a b ha hb).1 e) (omega arith),
)

-- ---- sums

-- distances add where the sum is in the range of a distance, its two ends included
pub distances_add : (a b c : ℕ) → a < turn → b < turn → c < turn
    → T (le_z (negsuc 2147483647) (distance a b +ℤ distance b c)) → T (le_z (distance a b +ℤ distance b c) (pos 2147483647))
    → distance a c ≡ distance a b +ℤ distance b c
distances_add a b c ha hb hc low high =
    sym (distance_the_one a c _ ha hc (sum_is a b c _ _ (distance_is a b ha hb) (distance_is b c hb hc) low high))

-- ---- the next number, the previous one, the one n before

-- the next number is one of the counter
pub next_below : (a : ℕ) → next a < turn
next_below a = omega arith

-- and so is the one n before
pub before_below : (n a : ℕ) → before n a < turn
before_below n a = omega arith

-- next undoes previous
pub next_previous : (a : ℕ) → a < turn → next (previous a) ≡ a
next_previous a ha = omega arith

-- and previous undoes next
pub previous_next : (a : ℕ) → a < turn → previous (next a) ≡ a
previous_next a ha = omega arith

-- the next number is one ahead
pub ahead_next : (a : ℕ) → a < turn → ahead a (next a) ≡ 1
ahead_next a ha = omega arith

-- so it is at distance 1
pub distance_next : (a : ℕ) → a < turn → distance a (next a) ≡ pos 1
distance_next a ha = distance_ahead a (next a) 1 (ahead_next a ha) (omega arith)

-- the threshold number: x is at distance n from the number n before it
pub distance_before : (n x : ℕ) → n < 2147483648 → x < turn → distance (before n x) x ≡ pos n
distance_before n x hn hx = distance_ahead (before n x) x n (omega arith) hn

-- so it is at distance 1 from the previous one
pub distance_previous : (a : ℕ) → a < turn → distance (previous a) a ≡ pos 1
distance_previous a ha = distance_before 1 a (omega arith) ha

-- ---- one of the two numbers counted up

-- the new one counted up is one more ahead, turning past zero
pub ahead_raised : (a b : ℕ) → a < turn → b < turn → ahead a (next b) ≡ (ahead a b + 1) % turn
ahead_raised a b ha hb =
    sym (ahead_add a b (next b) ha hb) ∙ ap (λ (n : ℕ). (ahead a b + n) % turn) (ahead_next b hb)

-- the old one counted up leaves one fewer ahead, if there was one
pub ahead_lowered : (a b : ℕ) → a < turn → 0 < ahead a b → suc (ahead (next a) b) ≡ ahead a b
ahead_lowered a b ha h =
    let one : ahead a (next a) ≡ 1 = ahead_next a ha in
    omega (arith, ahead_between a (next a) b ha (next_below a) (omega arith))

raised_fits : (z : ℤ) → T (le_z (negsuc 2147483647) z) → T (le_z z (pos 2147483647)) → z ≢ pos 2147483647
    → T (le_z (negsuc 2147483647) (suc_ℤ z)) × T (le_z (suc_ℤ z) (pos 2147483647))
raised_fits (pos n) low high ne =
    let h : n ≢ 2147483647 = λ e. ne (ap pos e) in
    (tt, le→leb (suc n) 2147483647 (omega (arith, leb→le)))
raised_fits (negsuc zero) low high ne = (tt, tt)
raised_fits (negsuc (suc n)) low high ne = (le→leb n 2147483647 (omega (arith, leb→le)), tt)

-- the new one counted up raises the distance by one, unless it is the greatest
pub distance_raised : (a b : ℕ) → a < turn → b < turn → distance a b ≢ pos 2147483647 → distance a (next b) ≡ distance a b +ℤ pos 1
distance_raised a b ha hb ne =
    let d = distance_is a b ha hb in
    let f = raised_fits (distance a b) d.low d.high ne in
    distances_add a b (next b) ha hb (next_below b)
    (rw (distance_next b hb, +ℤ_one) f.0)
    (rw (distance_next b hb, +ℤ_one) f.1)
    ∙ ap (λ (z : ℤ). distance a b +ℤ z) (distance_next b hb)

-- the greatest becomes the least
pub distance_raised_over : (a b : ℕ) → a < turn → b < turn → distance a b ≡ pos 2147483647 → distance a (next b) ≡ negsuc 2147483647
distance_raised_over a b ha hb e =
    distance_behind a (next b) 2147483647
    (omega (arith, ahead_raised a b ha hb, ahead_is a b 2147483647 e))
    (omega arith)

-- ---- the way back

turned_fits : (z : ℤ) → T (le_z (negsuc 2147483647) z) → T (le_z z (pos 2147483647)) → z ≢ negsuc 2147483647
    → T (le_z (negsuc 2147483647) (neg_ℤ z)) × T (le_z (neg_ℤ z) (pos 2147483647))
turned_fits (pos zero) low high ne = (tt, tt)
turned_fits (pos (suc n)) low high ne = (le→leb n 2147483647 (omega (arith, leb→le)), tt)
turned_fits (negsuc n) low high ne =
    let h : n ≢ 2147483647 = λ e. ne (ap negsuc e) in
    (tt, le→leb (suc n) 2147483647 (omega (arith, leb→le)))

-- the distance back is the negative, but at the half turn
pub distance_turned : (a b : ℕ) → a < turn → b < turn → distance a b ≢ negsuc 2147483647 → distance b a ≡ neg_ℤ (distance a b)
distance_turned a b ha hb ne =
    let d = distance_is a b ha hb in
    let f = turned_fits (distance a b) d.low d.high ne in
    sym (distance_the_one b a _ hb ha (turned_is a b (distance a b) d f.0 f.1))

-- at the half turn each lies behind the other
pub distance_turned_half : (a b : ℕ) → a < turn → b < turn → distance a b ≡ negsuc 2147483647 → distance b a ≡ negsuc 2147483647
distance_turned_half a b ha hb e =
    distance_behind b a 2147483647 (omega (arith, behind_is a b 2147483647 e)) (omega arith)

-- ---- tests of a distance

-- what is asked of a distance is asked of the numbers ahead, or of those behind
pub asked {ℓ} : {A : Type ℓ} (f : ℤ → A) (a b : ℕ)
    → f (distance a b) ≡ cond (ltb (ahead a b) 2147483648) (f (pos (ahead a b))) (f (negsuc (4294967295 - ahead a b)))
unfolding distance
asked f a b = by (ahead a b) (ltb (ahead a b) 2147483648)
  where
    by : (n : ℕ) (t : Bool) → f (cond t (pos n) (negsuc (4294967295 - n))) ≡ cond t (f (pos n)) (f (negsuc (4294967295 - n)))
    by n true = refl
    by n false = refl

-- d ≤ n
pub test_at_most : (n a b : ℕ) → le_z (distance a b) (pos n) ≡ cond (ltb (ahead a b) 2147483648) (leb (ahead a b) n) true
test_at_most n a b = asked (λ (z : ℤ). le_z z (pos n)) a b

-- d < n
pub test_below : (n a b : ℕ) → lt_z (distance a b) (pos n) ≡ cond (ltb (ahead a b) 2147483648) (ltb (ahead a b) n) true
test_below n a b = asked (λ (z : ℤ). lt_z z (pos n)) a b

-- n ≤ d
pub test_at_least : (n a b : ℕ) → le_z (pos n) (distance a b) ≡ cond (ltb (ahead a b) 2147483648) (leb n (ahead a b)) false
test_at_least n a b = asked (λ (z : ℤ). le_z (pos n) z) a b

-- n < d
pub test_above : (n a b : ℕ) → lt_z (pos n) (distance a b) ≡ cond (ltb (ahead a b) 2147483648) (ltb n (ahead a b)) false
test_above n a b = asked (λ (z : ℤ). lt_z (pos n) z) a b

-- each answer to d ≤ n and to n ≤ d, of a number m ahead
module _ (m n : ℕ) where
  yes_at_most : (t : Bool) → ltb m 2147483648 ≡ t → (cond t (leb m n) true ≡ true) ↔ ((m ≤ n) ⊎ (2147483648 ≤ m))
  yes_at_most true p =
      (λ e. inl (leb-true m n e), ⊎_elim (λ l. le-leb m n l) (λ l. absurd (omega (arith, ltb-true m 2147483648 p))))
  yes_at_most false p = (λ e. inr (ltb-false m 2147483648 p), λ h. refl)

  no_at_most : (t : Bool) → ltb m 2147483648 ≡ t → (cond t (leb m n) true ≡ false) ↔ ((n < m) × (m < 2147483648))
  no_at_most true p = (λ e. (leb-false m n e, ltb-true m 2147483648 p), λ h. lt-leb m n h.0)
  no_at_most false p = (λ e. absurd (true≢false e), λ h. absurd (omega (arith, ltb-false m 2147483648 p)))

  yes_at_least : (t : Bool) → ltb m 2147483648 ≡ t → (cond t (leb n m) false ≡ true) ↔ ((n ≤ m) × (m < 2147483648))
  yes_at_least true p = (λ e. (leb-true n m e, ltb-true m 2147483648 p), λ h. le-leb n m h.0)
  yes_at_least false p = (λ e. absurd (false≢true e), λ h. absurd (omega (arith, ltb-false m 2147483648 p)))

  no_at_least : (t : Bool) → ltb m 2147483648 ≡ t → (cond t (leb n m) false ≡ false) ↔ ((m < n) ⊎ (2147483648 ≤ m))
  no_at_least true p =
      (λ e. inl (leb-false n m e), ⊎_elim (λ l. lt-leb n m l) (λ l. absurd (omega (arith, ltb-true m 2147483648 p))))
  no_at_least false p = (λ e. inr (ltb-false m 2147483648 p), λ h. refl)

-- d ≤ n exactly if n or fewer are ahead, or half a turn or more
pub at_most : (n a b : ℕ) → (le_z (distance a b) (pos n) ≡ true) ↔ ((ahead a b ≤ n) ⊎ (2147483648 ≤ ahead a b))
at_most n a b = rw test_at_most (yes_at_most (ahead a b) n _ refl)

-- not exactly if more are, but fewer than half a turn
pub not_at_most : (n a b : ℕ) → (le_z (distance a b) (pos n) ≡ false) ↔ ((n < ahead a b) × (ahead a b < 2147483648))
not_at_most n a b = rw test_at_most (no_at_most (ahead a b) n _ refl)

-- n ≤ d exactly if n or more are ahead, but fewer than half a turn
pub at_least : (n a b : ℕ) → (le_z (pos n) (distance a b) ≡ true) ↔ ((n ≤ ahead a b) × (ahead a b < 2147483648))
at_least n a b = rw test_at_least (yes_at_least (ahead a b) n _ refl)

-- not exactly if fewer are, or half a turn or more
pub not_at_least : (n a b : ℕ) → (le_z (pos n) (distance a b) ≡ false) ↔ ((ahead a b < n) ⊎ (2147483648 ≤ ahead a b))
not_at_least n a b = rw test_at_least (no_at_least (ahead a b) n _ refl)

-- old, d ≤ 0 (01, "One channel", step 1): exactly if none are ahead, or half a turn or more
pub old_exactly : (a b : ℕ) → (le_z (distance a b) (pos 0) ≡ true) ↔ ((ahead a b ≡ 0) ⊎ (2147483648 ≤ ahead a b))
old_exactly a b = Iff.trans (at_most 0 a b) (⊎_map (λ h. omega arith) (λ h. h), ⊎_map (λ h. omega arith) (λ h. h))

-- two distances of 0 or more stand to each other as the numbers ahead: ≤
pub test_not_farther : (a b c d : ℕ) → ahead a b < 2147483648 → ahead c d < 2147483648
    → le_z (distance a b) (distance c d) ≡ leb (ahead a b) (ahead c d)
test_not_farther a b c d h k = rw (distance_ahead a b (ahead a b) refl h, distance_ahead c d (ahead c d) refl k)

-- and <
pub test_nearer : (a b c d : ℕ) → ahead a b < 2147483648 → ahead c d < 2147483648
    → lt_z (distance a b) (distance c d) ≡ ltb (ahead a b) (ahead c d)
test_nearer a b c d h k = rw (distance_ahead a b (ahead a b) refl h, distance_ahead c d (ahead c d) refl k)
