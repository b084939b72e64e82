-- Demand 1 of the order, its refusals. Each call over the table gives the number of the first condition, in that call's order, that holds (`message_number`,
-- `elapsed_number`, `leave_number`); so a number is given exactly if its condition holds and no earlier one, and a call is accepted exactly if none holds
-- (`message_refused`, `message_accepted` and the like for the other two). A refusal of that number is the whole answer, and the table and every lent octet are as they were
-- (`message_leaves`, `elapsed_leaves`, `leave_leaves`). Each condition stands by itself under the words of 01's table. Assumes nothing.
use Prim.Native.Nat.{ℕ}
use mathlib.Core.Logic.{◌↔◌}
use mathlib.Core.Path.{◌≡◌, refl, sym, ap}
use mathlib.Core.Bool.{Bool, true, false, cond, not, ◌&&◌, ◌||◌}
use mathlib.Core.List.{List, [], ◌∷◌}
use lib.ListN.{length, get_or}
use lib.Dec.{ltb, eqb}
use lib.IntN.{pos}
use lib.Signed.{le_z}
use borrow.Author.Tests.{eqb-true}
use Rattle.std.specs.Prelude as option
use Rattle.std.specs.Prelude.{Option, Some, is_some, Ok, Err}
use Rattle.counter.specs.Distance.{distance}
use Rattle.octets.specs.Octets.{number_at}
use Rattle.octets.proofs.Writes.{splice_nothing}
use Rattle.message.specs.Lengths.{reliable_wrapper, unreliable_wrapper, join, join_refuse, join_accept, leaving, ack, nak}
use Rattle.message.specs.Layouts.{reliable, cid_at, membership_of, wrapper_of, join_of}
use Rattle.message.specs.Reading.{readable, message_of, fixed_of, read_message, contents}
use Rattle.message.specs.declared.Cid.{Cid}
use Rattle.message.specs.declared.Join.{Join}
use Rattle.message.specs.declared.Message.TheVariants as message
use Rattle.message.specs.declared.Wrapper.{Wrapper}
use Rattle.refusal.specs.declared.Refusal.{Refusal}
use Rattle.refusal.specs.declared.Refusal.TheVariants as refusal
use Rattle.record.specs.Reasons.{leaving_reason}
use Rattle.record.specs.WellFormed.{most_contents}
use Rattle.record.specs.declared.Record.{Record}
use Rattle.wrapper.specs.Judge.{consistent, judged_by, judged}
use Rattle.wrapper.specs.Taken.{stepped_by, stepped}
use Rattle.wrapper.specs.declared.Arrived.{Arrived}
use Rattle.carry.specs.Carried.{deliver_from}
use Rattle.table.specs.Table.{same, found, table_formed, record_at}
use Rattle.asking.specs.Asking.{arrived_of, wrapper_for, wrapper_asks, join_asks, message_asks, read_asks, asked_of}
use Rattle.member.specs.Sizes.{message_sizes, elapsed_sizes, leave_sizes}
use Rattle.member.specs.Messages.{Outcome, refused_message, join_outcome, plan_outcome, stepped_outcome, wrapper_outcome, asked_outcome, message_outcome, number_of, message_end}
use Rattle.member.specs.Elapsing.{longest, Passing, refused_elapsed, passing, elapsed_outcome, passed_table, elapsed_end}
use Rattle.member.specs.Leaving.{Departing, refused_leave, departing, leave_for, leave_outcome, leave_end}
use Rattle.demands.specs.Refusals.{first_number, First, None, check, unreadable, is_wrapper, too_long, record_found, is_old, is_inconsistent, message_checks, elapsed_checks, leave_checks, RefusedBy, message_stands, elapsed_stands, leave_stands}
use Rattle.demands.proofs.Lemmas.Lists.{standing, silent}
use Rattle.demands.proofs.Lemmas.Checks.{Told, refused, accepted, told_number, told_stands, told_refused, refused_exactly, accepted_exactly}

-- ---- elapsed calls

-- refused with everything as before, or accepted
abbrev pub ElapsedTold : List Record → ℕ → Passing → Type 0
ElapsedTold ts k p = Told (λ (q : Passing). q.given) (refused_elapsed ts) k p

elapsed_told : (ts : List Record) (cells ms : ℕ) → ElapsedTold ts (first_number (elapsed_checks ts cells ms)) (elapsed_outcome ts cells ms)
unfolding elapsed_outcome first_number
elapsed_told ts cells ms = by (not (elapsed_sizes (length ts) cells)) (not (table_formed ts)) (ltb longest ms)
  where
    by : (a b c : Bool)
        → ElapsedTold ts (first_number (check 1 a ∷ check 2 b ∷ check 3 c ∷ []))
        (cond a (refused_elapsed ts refusal.WrongSize)
        (cond b (refused_elapsed ts refusal.WrongTable)
        (cond c (refused_elapsed ts refusal.TooMuchTime) (passing ts ms))))
    by true b c = refused refusal.WrongSize
    by false true c = refused refusal.WrongTable
    by false false true = refused refusal.TooMuchTime
    by false false false = accepted _ tt refl

-- the number of an elapsed call is that of the first condition that holds, or 0
pub elapsed_number : (ts : List Record) (cells ms : ℕ)
    → number_of (elapsed_outcome ts cells ms).given ≡ first_number (elapsed_checks ts cells ms)
elapsed_number ts cells ms = told_number _ (refused_elapsed ts) (λ why. refl) (elapsed_told ts cells ms)

-- a refused elapsed call answers its refusal alone and leaves every octet of the cells, and the table is as it was
pub elapsed_leaves : (ts : List Record) (cells : List ℕ) (ms : ℕ) → (first_number (elapsed_checks ts (length cells) ms) ≡ 0 → ⊥)
    → RefusedBy (first_number (elapsed_checks ts (length cells) ms))
    (λ why.
    (elapsed_end (elapsed_outcome ts (length cells) ms) cells ≡ elapsed_stands cells why)
    × (passed_table (elapsed_outcome ts (length cells) ms) ≡ ts))
elapsed_leaves ts cells ms =
    told_refused _ (refused_elapsed ts) (λ why. refl)
    (λ why p. (elapsed_end p cells ≡ elapsed_stands cells why) × (passed_table p ≡ ts))
    (λ why. (ap (λ (room : List ℕ). record { answer = Err why; cells = room }) (silent ts 0 cells), standing ts))
    (elapsed_told ts (length cells) ms)

-- what an elapsed call refuses stands
pub elapsed_stays : (ts : List Record) (cells ms : ℕ) (why : Refusal) → (elapsed_outcome ts cells ms).given ≡ Err why
    → elapsed_outcome ts cells ms ≡ refused_elapsed ts why
elapsed_stays ts cells ms why = told_stands _ (refused_elapsed ts) (λ w. refl) why (elapsed_told ts cells ms)

-- ---- leave calls

abbrev pub LeaveTold : List Record → ℕ → Departing → Type 0
LeaveTold ts k p = Told (λ (q : Departing). q.given) (refused_leave ts) k p

leave_told : (ts : List Record) (reply : ℕ) (owner : List ℕ) (channel reason : ℕ)
    → LeaveTold ts (first_number (leave_checks ts reply owner channel reason)) (leave_outcome ts reply owner channel reason)
unfolding leave_outcome departing first_number
leave_told ts reply owner channel reason =
    by (not (leave_sizes (length ts) reply (length owner))) (not (table_formed ts)) (found (cid_at owner 0) channel ts) (leaving_reason reason) refl
  where
    by : (a b : Bool) (f : Option ℕ) (c : Bool) → leaving_reason reason ≡ c
        → LeaveTold ts (first_number (check 1 a ∷ check 2 b ∷ check 6 (not (is_some f)) ∷ check 10 (not c) ∷ []))
        (cond a (refused_leave ts refusal.WrongSize) (cond b (refused_leave ts refusal.WrongTable) (leave_for ts reason f)))
    by true b f c e = refused refusal.WrongSize
    by false true f c e = refused refusal.WrongTable
    by false false option.None c e = refused refusal.NoRecord
    by false false (Some i) false e = rw e (refused refusal.WrongReason)
    by false false (Some i) true e = rw e (accepted _ i refl)

-- the number of a leave call is that of the first condition that holds, or 0
pub leave_number : (ts : List Record) (reply : ℕ) (owner : List ℕ) (channel reason : ℕ)
    → number_of (leave_outcome ts reply owner channel reason).given ≡ first_number (leave_checks ts reply owner channel reason)
leave_number ts reply owner channel reason = told_number _ (refused_leave ts) (λ why. refl) (leave_told ts reply owner channel reason)

-- a refused leave call answers its refusal alone and leaves every octet of the reply room, and the table is as it was
pub leave_leaves : (ts : List Record) (reply owner : List ℕ) (channel reason : ℕ)
    → (first_number (leave_checks ts (length reply) owner channel reason) ≡ 0 → ⊥)
    → RefusedBy (first_number (leave_checks ts (length reply) owner channel reason))
    (λ why.
    (leave_end (leave_outcome ts (length reply) owner channel reason) reply ≡ leave_stands reply why)
    × ((leave_outcome ts (length reply) owner channel reason).table ≡ ts))
leave_leaves ts reply owner channel reason =
    told_refused _ (refused_leave ts) (λ why. refl)
    (λ why p. (leave_end p reply ≡ leave_stands reply why) × (p.table ≡ ts))
    (λ why. (ap (λ (room : List ℕ). record { answer = Err why; reply = room }) (sym (splice_nothing reply 0)), refl))
    (leave_told ts (length reply) owner channel reason)

-- what a leave call refuses stands
pub leave_stays : (ts : List Record) (reply : ℕ) (owner : List ℕ) (channel reason : ℕ) (why : Refusal)
    → (leave_outcome ts reply owner channel reason).given ≡ Err why
    → leave_outcome ts reply owner channel reason ≡ refused_leave ts why
leave_stays ts reply owner channel reason why =
    told_stands _ (refused_leave ts) (λ w. refl) why (leave_told ts reply owner channel reason)

-- ---- a message call

abbrev pub MessageTold : List Record → List ℕ → ℕ → Outcome → Type 0
MessageTold ts held k out = Told (λ (o : Outcome). o.given) (refused_message ts held) k out

module _ (ts : List Record) (held : List ℕ) (s : Cid) (n : ℕ) (c : List ℕ) where
  -- 8 and 9: the step's own
  judged_told : (i : ℕ) (w : Arrived)
      → MessageTold ts held
      (first_number
      (check 8 (is_old (judged (record_at ts i) w.reliably w.total w.reliable))
      ∷ check 9 (is_inconsistent (judged (record_at ts i) w.reliably w.total w.reliable))
      ∷ []))
      (wrapper_outcome ts held i w c)
  unfolding first_number wrapper_outcome plan_outcome stepped judged judged_by
  judged_told i w =
      by (le_z (distance (record_at ts i).total.0 w.total.0) (pos 0))
      (consistent w.reliably (distance (record_at ts i).total.0 w.total.0) (distance (record_at ts i).reliable.0 w.reliable.0))
    where
      by : (a b : Bool)
          → MessageTold ts held
          (first_number
          (check 8 (is_old (cond a (Err refusal.Old) (cond b (Ok tt) (Err refusal.Inconsistent))))
          ∷ check 9 (is_inconsistent (cond a (Err refusal.Old) (cond b (Ok tt) (Err refusal.Inconsistent))))
          ∷ []))
          (stepped_outcome ts held i w c
          (stepped_by (cond a (Err refusal.Old) (cond b (Ok tt) (Err refusal.Inconsistent))) (record_at ts i) w))
      by true b = refused refusal.Old
      by false true = accepted _ _ refl
      by false false = refused refusal.Inconsistent

  -- 6 to 9: a wrapper
  wrapper_told : (f : Option ℕ) (reliably : Bool) (w : Wrapper) (len : ℕ) (over : Bool) → ltb most_contents len ≡ over
      → MessageTold ts held
      (first_number
      (check 6 (not (is_some f))
      ∷ check 7 over
      ∷ check 8 (is_old (judged (record_found ts f) reliably w.total w.reliable))
      ∷ check 9 (is_inconsistent (judged (record_found ts f) reliably w.total w.reliable))
      ∷ []))
      (asked_outcome ts held s n c (wrapper_for f reliably w len))
  unfolding first_number
  wrapper_told option.None reliably w len over e = refused refusal.NoRecord
  wrapper_told (Some i) reliably w len true e = rw e (refused refusal.ContentsOver)
  wrapper_told (Some i) reliably w len false e =
      rw e (judged_told i (arrived_of reliably w len))

  -- 5: neither wrapper nor Join, nor an ACK
  fixed_asks : (o : Cid) (v : ℕ) (d : List ℕ) (len : ℕ) → eqb v ack ≡ false → message_asks ts s o (fixed_of v d) len ≡ Err refusal.NotForUs
  unfolding fixed_of
  fixed_asks o v d len e = rw e (by (eqb v join_refuse) (eqb v join_accept) (eqb v leaving) (eqb v nak))
    where
      by : (a b c f : Bool)
          → message_asks ts s o
          (cond a (message.JoinRefuse (membership_of d) (get_or d 24 0))
          (cond b (message.JoinAccept (membership_of d) (number_at d 24 2))
          (cond c (message.Leaving (membership_of d) (get_or d 24 0))
          (cond f (message.Nak (membership_of d) (reliable (number_at d 24 4)) (reliable (number_at d 28 4)))
          (message.GetSessions (cid_at d 0))))))
          len
          ≡ Err refusal.NotForUs
      by true b c f = refl
      by false true c f = refl
      by false false true f = refl
      by false false false true = refl
      by false false false false = refl

  -- 4: an ACK, whether it is readable or not
  ack_told : (o : Cid) (d : List ℕ) (len : ℕ) (b : Bool)
      → MessageTold ts held 4 (asked_outcome ts held s n c (read_asks ts s o (cond b (Ok (message_of ack d)) (Err refusal.NoForm)) len))
  unfolding message_of fixed_of
  ack_told o d len true = refused refusal.NoForm
  ack_told o d len false = refused refusal.NoForm

  -- 5: a Join for another component
  join_told : (o : Cid) (j : Join) (ours : Bool) → same j.cid o ≡ ours → MessageTold ts held (cond ours 0 5) (asked_outcome ts held s n c (join_asks o j))
  unfolding join_asks join_outcome
  join_told o j true e = rw e (accepted _ _ refl)
  join_told o j false e = rw e (refused refusal.NotForUs)

  -- 4 to 9, by what the vector is
  asked_told : (o : Cid) (v : ℕ) (d : List ℕ)
      → MessageTold ts held
      (first_number
      (check 4 (unreadable v d)
      ∷ check 5 (not (is_wrapper v) && not (eqb v join && same (join_of d).cid o))
      ∷ check 6 (is_wrapper v && not (is_some (found s (wrapper_of d).channel ts)))
      ∷ check 7 (too_long v d)
      ∷ check 8 (is_wrapper v && is_old (judged (record_found ts (found s (wrapper_of d).channel ts)) (eqb v reliable_wrapper) (wrapper_of d).total (wrapper_of d).reliable))
      ∷ check 9 (is_wrapper v && is_inconsistent (judged (record_found ts (found s (wrapper_of d).channel ts)) (eqb v reliable_wrapper) (wrapper_of d).total (wrapper_of d).reliable))
      ∷ []))
      (asked_outcome ts held s n c (asked_of ts s o v d))
  unfolding asked_of read_message message_of first_number wrapper_asks
  asked_told o v d = split (eqb v ack) refl
    where
      f : Option ℕ
      f = found s (wrapper_of d).channel ts

      by : eqb v ack ≡ false → (r x y z q : Bool) → same (join_of d).cid o ≡ q
          → MessageTold ts held
          (first_number
          (check 4 (not r)
          ∷ check 5 (not (x || y) && not (z && q))
          ∷ check 6 ((x || y) && not (is_some f))
          ∷ check 7 ((x || y) && ltb most_contents (length (contents d)))
          ∷ check 8 ((x || y) && is_old (judged (record_found ts f) x (wrapper_of d).total (wrapper_of d).reliable))
          ∷ check 9 ((x || y) && is_inconsistent (judged (record_found ts f) x (wrapper_of d).total (wrapper_of d).reliable))
          ∷ []))
          (asked_outcome ts held s n c
          (read_asks ts s o
          (cond r (Ok (cond x (message.ReliableWrapper (wrapper_of d)) (cond y (message.UnreliableWrapper (wrapper_of d)) (cond z (message.Join (join_of d)) (fixed_of v d))))) (Err refusal.NoForm))
          (length (contents d))))
      by a false x y z q e = refused refusal.NoForm
      by a true true y z q e = wrapper_told f true (wrapper_of d) (length (contents d)) (ltb most_contents (length (contents d))) refl
      by a true false true z q e = wrapper_told f false (wrapper_of d) (length (contents d)) (ltb most_contents (length (contents d))) refl
      by a true false false true true e = join_told o (join_of d) true e
      by a true false false true false e = join_told o (join_of d) false e
      by a true false false false q e = rw (fixed_asks o v d (length (contents d)) a) (refused refusal.NotForUs)

      split : (b : Bool) → eqb v ack ≡ b
          → MessageTold ts held
          (first_number
          (check 4 (b || not (readable v d))
          ∷ check 5 (not (is_wrapper v) && not (eqb v join && same (join_of d).cid o))
          ∷ check 6 (is_wrapper v && not (is_some f))
          ∷ check 7 (too_long v d)
          ∷ check 8 (is_wrapper v && is_old (judged (record_found ts f) (eqb v reliable_wrapper) (wrapper_of d).total (wrapper_of d).reliable))
          ∷ check 9 (is_wrapper v && is_inconsistent (judged (record_found ts f) (eqb v reliable_wrapper) (wrapper_of d).total (wrapper_of d).reliable))
          ∷ []))
          (asked_outcome ts held s n c (asked_of ts s o v d))
      split true e = let v-is : v ≡ ack = eqb-true v ack e in rw v-is (ack_told o d (length (contents d)) (readable ack d))
      split false e =
          by e (readable v d) (eqb v reliable_wrapper) (eqb v unreliable_wrapper) (eqb v join) (same (join_of d).cid o) refl

message_told : (ts : List Record) (held : List ℕ) (deliver reply : ℕ) (sender ours : List ℕ) (v : ℕ) (d : List ℕ) (n : ℕ)
    → MessageTold ts held (first_number (message_checks ts held deliver reply sender ours v d)) (message_outcome ts held deliver reply sender ours v d n)
unfolding message_outcome first_number
message_told ts held deliver reply sender ours v d n =
    by (not (message_sizes (length ts) (length held) deliver reply (length sender) (length ours))) (not (table_formed ts)) _ _
    (asked_told ts held (cid_at sender 0) n (contents d) (cid_at ours 0) v d)
  where
    by : (a b : Bool) (k : ℕ) (o : Outcome) → MessageTold ts held k o
        → MessageTold ts held (cond a 1 (cond b 2 k))
        (cond a (refused_message ts held refusal.WrongSize) (cond b (refused_message ts held refusal.WrongTable) o))
    by true b k o t = refused refusal.WrongSize
    by false true k o t = refused refusal.WrongTable
    by false false k o t = t

-- the number of a message call is that of the first condition that holds, or 0
pub message_number : (ts : List Record) (held : List ℕ) (deliver reply : ℕ) (sender ours : List ℕ) (v : ℕ) (d : List ℕ) (n : ℕ)
    → number_of (message_outcome ts held deliver reply sender ours v d n).given ≡ first_number (message_checks ts held deliver reply sender ours v d)
message_number ts held deliver reply sender ours v d n =
    told_number _ (refused_message ts held) (λ why. refl) (message_told ts held deliver reply sender ours v d n)

-- a refused message call answers its refusal alone and leaves the held octets and every octet of the two rooms, and the table is as it was
pub message_leaves : (ts : List Record) (held deliver reply sender ours : List ℕ) (v : ℕ) (d : List ℕ) (n : ℕ)
    → (first_number (message_checks ts held (length deliver) (length reply) sender ours v d) ≡ 0 → ⊥)
    → RefusedBy (first_number (message_checks ts held (length deliver) (length reply) sender ours v d))
    (λ why.
    (message_end (message_outcome ts held (length deliver) (length reply) sender ours v d n) deliver reply
    ≡ message_stands held deliver reply why)
    × ((message_outcome ts held (length deliver) (length reply) sender ours v d n).table ≡ ts))
unfolding deliver_from
message_leaves ts held deliver reply sender ours v d n =
    told_refused _ (refused_message ts held) (λ why. refl)
    (λ why out. (message_end out deliver reply ≡ message_stands held deliver reply why) × (out.table ≡ ts))
    (λ why.
    (ap (λ (room : List ℕ). record { answer = Err why; held = held; deliver = deliver; reply = room }) (sym (splice_nothing reply 0)), refl))
    (message_told ts held (length deliver) (length reply) sender ours v d n)

-- what a message call refuses stands
pub message_stays : (ts : List Record) (held : List ℕ) (deliver reply : ℕ) (sender ours : List ℕ) (v : ℕ) (d : List ℕ) (n : ℕ) (why : Refusal)
    → (message_outcome ts held deliver reply sender ours v d n).given ≡ Err why
    → message_outcome ts held deliver reply sender ours v d n ≡ refused_message ts held why
message_stays ts held deliver reply sender ours v d n why =
    told_stands _ (refused_message ts held) (λ w. refl) why (message_told ts held deliver reply sender ours v d n)

-- ---- exactly if, both ways: number n is given exactly if its condition holds and no earlier one, and a call is accepted exactly if none holds

module _ (ts : List Record) (held : List ℕ) (deliver reply : ℕ) (sender ours : List ℕ) (v : ℕ) (d : List ℕ) (n : ℕ) where
  pub message_refused : (k : ℕ) → (k ≡ 0 → ⊥)
      → (number_of (message_outcome ts held deliver reply sender ours v d n).given ≡ k) ↔ First k (message_checks ts held deliver reply sender ours v d)
  message_refused = refused_exactly (message_number ts held deliver reply sender ours v d n)

  pub message_accepted : (number_of (message_outcome ts held deliver reply sender ours v d n).given ≡ 0) ↔ None (message_checks ts held deliver reply sender ours v d)
  message_accepted = accepted_exactly (message_number ts held deliver reply sender ours v d n) refl

module _ (ts : List Record) (cells ms : ℕ) where
  pub elapsed_refused : (k : ℕ) → (k ≡ 0 → ⊥) → (number_of (elapsed_outcome ts cells ms).given ≡ k) ↔ First k (elapsed_checks ts cells ms)
  elapsed_refused = refused_exactly (elapsed_number ts cells ms)

  pub elapsed_accepted : (number_of (elapsed_outcome ts cells ms).given ≡ 0) ↔ None (elapsed_checks ts cells ms)
  elapsed_accepted = accepted_exactly (elapsed_number ts cells ms) refl

module _ (ts : List Record) (reply : ℕ) (owner : List ℕ) (channel reason : ℕ) where
  pub leave_refused : (k : ℕ) → (k ≡ 0 → ⊥)
      → (number_of (leave_outcome ts reply owner channel reason).given ≡ k) ↔ First k (leave_checks ts reply owner channel reason)
  leave_refused = refused_exactly (leave_number ts reply owner channel reason)

  pub leave_accepted : (number_of (leave_outcome ts reply owner channel reason).given ≡ 0) ↔ None (leave_checks ts reply owner channel reason)
  leave_accepted = accepted_exactly (leave_number ts reply owner channel reason) refl
