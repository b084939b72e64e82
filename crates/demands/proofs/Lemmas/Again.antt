-- Data that is read as a message is what that message is written to: layout by layout, and then for each vector of the table. Assumes nothing.
use mathlib.Core.Path.{◌≡◌, refl, sym, subst, ◌∙◌}
use mathlib.Core.Bool.{Bool, true, false, cond, true≢false, false≢true}
use mathlib.Core.List.{List, [], ◌∷◌, ◌++◌, append-nil}
use mathlib.Core.Logic.{◌≢◌}
use Prim.Native.Nat.{ℕ, zero, suc, ◌+◌, ◌-◌, ◌≤◌}
use native.Mathlib.Nat.{add_assoc}
use native.Mathlib.Omega.{arith}
use lib.ListN.{length, get_or, take, drop, take-append-drop}
use lib.Seq.{get_or-drop, take_all, take-length}
use lib.Dec.{lit<, eqb}
use borrow.Author.Tests.{leb-true, eqb-true, ne_eqb}
use Rattle.std.specs.Prelude.{None, Ok, Err}
use Rattle.octets.specs.Octets.{octets, part, number_at, joined, Octets}
use Rattle.octets.proofs.Numbers.{octets_tail, octets_number, part_add, length_part, number_one}
use Rattle.message.specs.Lengths.{reliable_wrapper, unreliable_wrapper, join, join_refuse, join_accept, leaving, ack, nak, get_sessions, null, ipv4, rows, look, length_of}
use Rattle.message.specs.Layouts.{cid_at, membership_of, wrapper_of, parameters_at, endpoint_at, address_of, join_of}
use Rattle.message.specs.Reading.{readable_join, readable, fixed_of, message_of, read_message}
use Rattle.message.proofs.Readable.{null_length, ipv4_length, join_length, rowless}
use Rattle.message.specs.declared.Row.{Row}
use Rattle.message.specs.declared.Message.{Message}
use Rattle.message.specs.declared.Message.TheVariants as message
use Rattle.refusal.specs.declared.Refusal.TheVariants as refusal
use Rattle.writing.specs.Fields.{cid_octets, membership_octets, wrapper_octets, parameters_octets, address_octets, join_octets, fields_of}
use Rattle.writing.specs.Writing.{vector_of, address_of as addressType, has_form, carried_of, contents_of}
use Rattle.demands.specs.Runs.{Each, none, more}

-- ---- parts of data

pub octets_take : (n : ℕ) (s : List ℕ) → Octets s → Octets (take n s)
unfolding Octets
octets_take zero s o i = lit< tt
octets_take (suc n) [] o i = lit< tt
octets_take (suc n) (x ∷ s) o zero = o 0
octets_take (suc n) (x ∷ s) o (suc i) = octets_take n s (octets_tail x s o) i

pub octets_drop : (at : ℕ) (s : List ℕ) → Octets s → Octets (drop at s)
unfolding Octets
octets_drop at s o i = rw get_or-drop (o (at + i))

-- parts of these widths, each right behind the one before
abbrev parts : List ℕ → ℕ → List ℕ → List (List ℕ)
parts d at [] = []
parts d at (n ∷ ns) = part d at n ∷ parts d (at + n) ns

abbrev sum : List ℕ → ℕ
sum [] = 0
sum (n ∷ ns) = n + sum ns

joined_parts : (d : List ℕ) (at : ℕ) (ns : List ℕ) → joined (parts d at ns) ≡ part d at (sum ns)
joined_parts d at [] = refl
joined_parts d at (n ∷ ns) = rw (joined_parts d (at + n) ns) (sym (part_add d at n (sum ns)))

-- parts that come to the length of the data are all of it
all_parts : (d : List ℕ) (ns : List ℕ) → length d ≤ sum ns → joined (parts d 0 ns) ≡ d
all_parts d ns h = joined_parts d 0 ns ∙ take_all (sum ns) d h

-- ---- the table of lengths

by_test : {P : Type 0} (b : Bool) → (b ≡ true → P) → (b ≡ false → P) → P
by_test true t f = t refl
by_test false t f = f refl

-- what holds of the vector of each row holds of a vector that has a length in the table
in_table : (P : ℕ → Type 0) (rs : List Row) (v a : ℕ) → Each (λ r. P r.vector) rs → look rs v a ≢ None → P v
unfolding look
in_table P [] v a p h = absurd (h refl)
in_table P (r ∷ rs) v a (more p ps) h =
    by_test (eqb v r.vector) (λ e. rw (eqb-true v r.vector e) p) (λ e. in_table P rs v a ps (λ z. h (rw e z)))

-- ---- what is to be proved of each vector

-- under the vector v the data d are those of m
abbrev pub Same : ℕ → List ℕ → Message → Type 0
Same v d m = (vector_of m ≡ v) × (fields_of m ++ contents_of m (drop 20 d) ≡ d)

-- they are those of the message that they are read as
abbrev Kept : List ℕ → ℕ → Type 0
Kept d v = readable v d ≡ true → has_form (message_of v d) ≡ true → Same v d (message_of v d)

-- what is read is the message of data that is readable
read_is : (b : Bool) (n m : Message) → cond b (Ok n) (Err refusal.NoForm) ≡ Ok m → (b ≡ true) × (n ≡ m)
read_is true n m e = (refl, cc)
read_is false n m e = (cc, cc)

module _ (d : List ℕ) (o : Octets d) where
  -- ---- the fields and layouts: what is read from a part is written to that part

  number_again : (at n : ℕ) → at + n ≤ length d → octets n (number_at d at n) ≡ part d at n
  number_again at n h = octets_number n (part d at n) (length_part d at n h) (octets_take n (drop at d) (octets_drop at d o))

  octet_again : (at : ℕ) → at + 1 ≤ length d → octets 1 (get_or d at 0) ≡ part d at 1
  octet_again at h = rw (number_one d at (omega arith)) (number_again at 1 h)

  cid_again : 16 ≤ length d → cid_octets (cid_at d 0) ≡ part d 0 16
  unfolding cid_octets cid_at
  cid_again h = rw (number_again 0 8 (omega arith), number_again 8 8 h) (joined_parts d 0 (8 ∷ 8 ∷ []))

  membership_again : 24 ≤ length d → membership_octets (membership_of d) ≡ part d 0 24
  unfolding membership_octets membership_of
  membership_again h =
      rw (cid_again (omega arith), number_again 16 2 (omega arith), number_again 18 2 (omega arith), number_again 20 4 h)
      (joined_parts d 0 (16 ∷ 2 ∷ 2 ∷ 4 ∷ []))

  wrapper_again : 20 ≤ length d → wrapper_octets (wrapper_of d) ≡ part d 0 20
  unfolding wrapper_octets wrapper_of
  wrapper_again h =
      rw (
        number_again 0 2 (omega arith),
        number_again 2 4 (omega arith),
        number_again 6 4 (omega arith),
        number_again 10 4 (omega arith),
        number_again 14 2 (omega arith),
        number_again 16 2 (omega arith),
        number_again 18 2 h,
      )
      (joined_parts d 0 (2 ∷ 4 ∷ 4 ∷ 4 ∷ 2 ∷ 2 ∷ 2 ∷ []))

  parameters_again : (at : ℕ) → at + 9 ≤ length d → parameters_octets (parameters_at d at) ≡ part d at 9
  unfolding parameters_octets parameters_at
  parameters_again at h =
      rw (
        octet_again at (omega arith),
        octet_again (at + 1) (omega arith),
        number_again (at + 2) 2 (omega arith),
        number_again (at + 4) 2 (omega arith),
        number_again (at + 6) 2 (omega arith),
        octet_again (at + 8) (omega arith),
      )
      (simp add_assoc at (joined_parts d at (1 ∷ 1 ∷ 2 ∷ 2 ∷ 2 ∷ 1 ∷ [])))

  -- by the address type t; with another than null or IPv4 there is no written form
  address_again : (t : ℕ) → get_or d 30 0 ≡ t → readable_join d ≡ true → has_form (message.Join (join_of d)) ≡ true
      → address_octets (address_of d) ≡ part d 30 (length d - 30)
  unfolding has_form addressType join_of address_of address_octets endpoint_at
  address_again zero e r f =
      let l : length d ≡ 40 = null_length d r e in
      let t : octets 1 null ≡ part d 30 1 = rw e at (octet_again 30 (omega arith)) in
      rw (e, l, t, parameters_again 31 (omega arith)) (joined_parts d 30 (1 ∷ 9 ∷ []))
  address_again (suc zero) e r f =
      let l : length d ≡ 46 = ipv4_length d r e in
      let t : octets 1 ipv4 ≡ part d 30 1 = rw e at (octet_again 30 (omega arith)) in
      rw (e, l, t, number_again 31 2 (omega arith), number_again 33 4 (omega arith), parameters_again 37 (omega arith))
      (joined_parts d 30 (1 ∷ 2 ∷ 4 ∷ 9 ∷ []))
  address_again (suc (suc t)) e r f =
      absurd
      (false≢true (rw (e, ne_eqb (suc (suc t)) null (λ q. omega arith), ne_eqb (suc (suc t)) ipv4 (λ q. omega arith)) at f))

  join_again : readable_join d ≡ true → has_form (message.Join (join_of d)) ≡ true → join_octets (join_of d) ≡ d
  unfolding join_octets join_of
  join_again r f =
      let l : 31 ≤ length d = join_length d r in
      rw (
        cid_again (omega arith),
        number_again 16 2 (omega arith),
        number_again 18 2 (omega arith),
        number_again 20 2 (omega arith),
        number_again 22 4 (omega arith),
        number_again 26 4 (omega arith),
        address_again (get_or d 30 0) refl r f,
      )
      (all_parts d (16 ∷ 2 ∷ 2 ∷ 2 ∷ 4 ∷ 4 ∷ (length d - 30) ∷ []) (omega arith))

  -- ---- the rows of the table: a message's fields are all its data, and behind a wrapper's stand its contents

  join_kept : Kept d join
  unfolding readable message_of vector_of fields_of carried_of
  join_kept r f = (refl, rw (append-nil (join_octets (join_of d))) (join_again r f))

  -- a membership and what follows it: the reason of Join Refuse and of Leaving, the reciprocal channel of Join Accept, and NAK's two numbers

  reason_again : length d ≡ 25 → joined (membership_octets (membership_of d) ∷ octets 1 (get_or d 24 0) ∷ []) ≡ d
  reason_again l = rw (membership_again (omega arith), octet_again 24 (omega arith)) (all_parts d (24 ∷ 1 ∷ []) (omega arith))

  reciprocal_again : length d ≡ 26 → joined (membership_octets (membership_of d) ∷ octets 2 (number_at d 24 2) ∷ []) ≡ d
  reciprocal_again l = rw (membership_again (omega arith), number_again 24 2 (omega arith)) (all_parts d (24 ∷ 2 ∷ []) (omega arith))

  missing_again : length d ≡ 32
      → joined (membership_octets (membership_of d) ∷ octets 4 (number_at d 24 4) ∷ octets 4 (number_at d 28 4) ∷ []) ≡ d
  missing_again l =
      rw (membership_again (omega arith), number_again 24 4 (omega arith), number_again 28 4 (omega arith))
      (all_parts d (24 ∷ 4 ∷ 4 ∷ []) (omega arith))

  refuse_kept : Kept d join_refuse
  unfolding readable length_of look message_of fixed_of vector_of fields_of carried_of
  refuse_kept r f = (refl, rw (append-nil (fields_of (message_of join_refuse d))) (reason_again (eqb-true (length d) 25 r)))

  leaving_kept : Kept d leaving
  unfolding readable length_of look message_of fixed_of vector_of fields_of carried_of
  leaving_kept r f = (refl, rw (append-nil (fields_of (message_of leaving d))) (reason_again (eqb-true (length d) 25 r)))

  accept_kept : Kept d join_accept
  unfolding readable length_of look message_of fixed_of vector_of fields_of carried_of
  accept_kept r f = (refl, rw (append-nil (fields_of (message_of join_accept d))) (reciprocal_again (eqb-true (length d) 26 r)))

  nak_kept : Kept d nak
  unfolding readable length_of look message_of fixed_of vector_of fields_of carried_of
  nak_kept r f = (refl, rw (append-nil (fields_of (message_of nak d))) (missing_again (eqb-true (length d) 32 r)))

  sessions_kept : Kept d get_sessions
  unfolding readable length_of look message_of fixed_of vector_of fields_of carried_of
  sessions_kept r f =
      let l : length d ≡ 16 = eqb-true (length d) 16 r in
      (refl, rw (append-nil (fields_of (message_of get_sessions d)), cid_again (omega arith)) (take_all 16 d (omega arith)))

  ack_kept : Kept d ack
  unfolding readable length_of look message_of fixed_of vector_of fields_of carried_of
  ack_kept r f =
      let l : length d ≡ 4 = eqb-true (length d) 4 r in
      (refl, rw (append-nil (fields_of (message_of ack d)), number_again 0 4 (omega arith)) (take_all 4 d (omega arith)))

  wrapper_whole : 20 ≤ length d → wrapper_octets (wrapper_of d) ++ take (length (drop 20 d)) (drop 20 d) ≡ d
  wrapper_whole h = rw (wrapper_again h, take-length (drop 20 d)) (take-append-drop 20 d)

  reliable_kept : Kept d reliable_wrapper
  unfolding readable length_of look message_of vector_of fields_of carried_of
  reliable_kept r f = (refl, wrapper_whole (leb-true 20 (length d) r))

  unreliable_kept : Kept d unreliable_wrapper
  unfolding readable length_of look message_of vector_of fields_of carried_of
  unreliable_kept r f = (refl, wrapper_whole (leb-true 20 (length d) r))

  -- in the order of the rows, of which Join has two
  each_kept : Each (λ r. Kept d r.vector) rows
  each_kept =
      more join_kept
      (more join_kept
      (more accept_kept
      (more refuse_kept
      (more leaving_kept (more nak_kept (more sessions_kept (more ack_kept (more reliable_kept (more unreliable_kept none)))))))))

  kept : (v : ℕ) → Kept d v
  unfolding length_of
  kept v r f = in_table (Kept d) rows v null each_kept (λ z. true≢false (sym r ∙ rowless v d z)) r f

  pub again : (v : ℕ) (m : Message) → read_message v d ≡ Ok m → has_form m ≡ true → Same v d m
  unfolding read_message
  again v m e f =
      let p = read_is (readable v d) (message_of v d) m e in
      subst (λ (n : Message). has_form n ≡ true → Same v d n) p.1 (kept v p.0) f
