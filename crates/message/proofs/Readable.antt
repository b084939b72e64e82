-- What it takes for a message to be readable, vector by vector: what the test comes to, and the length that it gives. Other crates cite these.
-- Assumes nothing.
use Prim.Native.Nat.{ℕ, ◌<◌, ◌≤◌}
use native.Mathlib.Omega.{arith}
use mathlib.Core.Path.{◌≡◌, refl, sym, ◌∙◌}
use mathlib.Core.Logic.{◌≢◌}
use mathlib.Core.Bool.{Bool, true, false, ◌&&◌, ◌||◌, and-eq-true_iff, and-true, and-false, true≢false}
use mathlib.Core.List.{List}
use lib.ListN.{length, get_or}
use lib.Dec.{eqb, leb, ltb}
use borrow.Author.Tests.{eqb-true, eqb-false, leb-true, leb-false, lt-ltb, ne_eqb}
use Rattle.message.specs.Lengths.{reliable_wrapper, unreliable_wrapper, join, join_refuse, join_accept, leaving, ack, nak, get_sessions, null, ipv4, look, length_of, exactly}
use Rattle.std.specs.Prelude.{None}
use Rattle.std.proofs.lemmas.Option.{none-some}
use Rattle.message.specs.Reading.{readable_join, readable}
use Rattle.message.proofs.Lengths.{NoneOfNine, no_row}

-- ---- a Join

-- a length that is 31 or more needs no second test
long : (n k : ℕ) → 31 ≤ n → (leb 31 k && eqb k n) ≡ eqb k n
long n k h = by (leb 31 k) refl
  where
    by : (t : Bool) → leb 31 k ≡ t → (leb 31 k && eqb k n) ≡ eqb k n
    by true e = rw e
    by false e = let l : k < 31 = leb-false 31 k e in rw (ne_eqb k n (λ q. omega arith)) (and-false (leb 31 k))

module _ (d : List ℕ) where
  pub null_readable : get_or d 30 0 ≡ null → readable_join d ≡ eqb (length d) 40
  unfolding readable_join length_of look
  null_readable e = rw e (long 40 (length d) (omega arith))

  pub ipv4_readable : get_or d 30 0 ≡ ipv4 → readable_join d ≡ eqb (length d) 46
  unfolding readable_join length_of look
  ipv4_readable e = rw e (long 46 (length d) (omega arith))

  pub other_readable : ipv4 < get_or d 30 0 → readable_join d ≡ leb 31 (length d)
  unfolding readable_join
  other_readable h = rw (lt-ltb ipv4 (get_or d 30 0) h) (and-true (leb 31 (length d)))

  pub null_length : readable_join d ≡ true → get_or d 30 0 ≡ null → length d ≡ 40
  null_length r e = eqb-true (length d) 40 (sym (null_readable e) ∙ r)

  pub ipv4_length : readable_join d ≡ true → get_or d 30 0 ≡ ipv4 → length d ≡ 46
  ipv4_length r e = eqb-true (length d) 46 (sym (ipv4_readable e) ∙ r)

  pub join_length : readable_join d ≡ true → 31 ≤ length d
  unfolding readable_join
  join_length r =
      leb-true 31 (length d)
      ((and-eq-true_iff (leb 31 (length d)) (ltb ipv4 (get_or d 30 0) || exactly (length_of join (get_or d 30 0)) (length d))).0 r).0

  -- ---- what each vector asks

  pub reliable_readable : readable reliable_wrapper d ≡ leb 20 (length d)
  unfolding readable length_of look
  reliable_readable = refl

  pub unreliable_readable : readable unreliable_wrapper d ≡ leb 20 (length d)
  unfolding readable length_of look
  unreliable_readable = refl

  pub join_readable : readable join d ≡ readable_join d
  unfolding readable
  join_readable = refl

  pub refuse_readable : readable join_refuse d ≡ eqb (length d) 25
  unfolding readable length_of look
  refuse_readable = refl

  pub accept_readable : readable join_accept d ≡ eqb (length d) 26
  unfolding readable length_of look
  accept_readable = refl

  pub leaving_readable : readable leaving d ≡ eqb (length d) 25
  unfolding readable length_of look
  leaving_readable = refl

  pub ack_readable : readable ack d ≡ eqb (length d) 4
  unfolding readable length_of look
  ack_readable = refl

  pub nak_readable : readable nak d ≡ eqb (length d) 32
  unfolding readable length_of look
  nak_readable = refl

  pub sessions_readable : readable get_sessions d ≡ eqb (length d) 16
  unfolding readable length_of look
  sessions_readable = refl

-- ---- the length of readable data. The vector stands apart from its number, as a caller that has matched it knows it

module _ (v : ℕ) (d : List ℕ) where
  pub reliable_length : readable v d ≡ true → v ≡ reliable_wrapper → 20 ≤ length d
  reliable_length r e = leb-true 20 (length d) (sym (reliable_readable d) ∙ rw e at r)

  pub unreliable_length : readable v d ≡ true → v ≡ unreliable_wrapper → 20 ≤ length d
  unreliable_length r e = leb-true 20 (length d) (sym (unreliable_readable d) ∙ rw e at r)

  pub join_is : readable v d ≡ true → v ≡ join → readable_join d ≡ true
  join_is r e = sym (join_readable d) ∙ rw e at r

  pub refuse_length : readable v d ≡ true → v ≡ join_refuse → length d ≡ 25
  refuse_length r e = eqb-true (length d) 25 (sym (refuse_readable d) ∙ rw e at r)

  pub accept_length : readable v d ≡ true → v ≡ join_accept → length d ≡ 26
  accept_length r e = eqb-true (length d) 26 (sym (accept_readable d) ∙ rw e at r)

  pub leaving_length : readable v d ≡ true → v ≡ leaving → length d ≡ 25
  leaving_length r e = eqb-true (length d) 25 (sym (leaving_readable d) ∙ rw e at r)

  pub ack_length : readable v d ≡ true → v ≡ ack → length d ≡ 4
  ack_length r e = eqb-true (length d) 4 (sym (ack_readable d) ∙ rw e at r)

  pub nak_length : readable v d ≡ true → v ≡ nak → length d ≡ 32
  nak_length r e = eqb-true (length d) 32 (sym (nak_readable d) ∙ rw e at r)

  pub sessions_length : readable v d ≡ true → v ≡ get_sessions → length d ≡ 16
  sessions_length r e = eqb-true (length d) 16 (sym (sessions_readable d) ∙ rw e at r)

-- ---- which vectors are readable

module _ (v : ℕ) (d : List ℕ) where
  -- Join and the wrappers have rows
  apart : length_of v null ≡ None → (v ≢ join) × ((v ≢ reliable_wrapper) × (v ≢ unreliable_wrapper))
  unfolding length_of look
  apart e = (λ q. none-some _ (sym (rw q at e)), (λ q. none-some _ (sym (rw q at e)), λ q. none-some _ (sym (rw q at e))))

  -- a vector with no row is none of ours
  pub rowless : length_of v null ≡ None → readable v d ≡ false
  unfolding readable
  rowless e =
      let a = apart e in
      rw (ne_eqb v join a.0, ne_eqb v reliable_wrapper a.1.0, ne_eqb v unreliable_wrapper a.1.1, e)

  pub none_readable : NoneOfNine v → readable v d ≡ false
  none_readable n = rowless (no_row v n)

  -- what is left where Join and the wrappers are ruled out
  pub fixed_vector : readable v d ≡ true → (v ≢ reliable_wrapper) × ((v ≢ unreliable_wrapper) × (v ≢ join)) → join_refuse ≤ v
  fixed_vector r n = by (leb join_refuse v) refl
    where
      by : (t : Bool) → leb join_refuse v ≡ t → join_refuse ≤ v
      by true e = leb-true join_refuse v e
      by false e = let l = leb-false join_refuse v e in absurd (true≢false (sym r ∙ none_readable (omega arith)))

  -- and where the five others of fixed length are too
  pub last_vector : readable v d ≡ true
      → (join_refuse ≤ v) × ((v ≢ join_refuse) × ((v ≢ join_accept) × ((v ≢ leaving) × ((v ≢ ack) × (v ≢ nak)))))
      → v ≡ get_sessions
  last_vector r n = by (eqb v get_sessions) refl
    where
      by : (t : Bool) → eqb v get_sessions ≡ t → v ≡ get_sessions
      by true e = eqb-true v get_sessions e
      by false e = let g = eqb-false v get_sessions e in absurd (true≢false (sym r ∙ none_readable (omega arith)))

pub ruleset fixed_lengths = (refuse_length, accept_length, leaving_length, ack_length, nak_length, sessions_length, last_vector)

pub ruleset lengths = (reliable_length, unreliable_length, join_is, fixed_vector)
