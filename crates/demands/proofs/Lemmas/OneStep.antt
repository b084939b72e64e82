-- What one of its own calls can do to a channel, as one case split (`does`): it answers and leaves the channel, it carries a wrapper's plan out, it lets time pass, or it
-- leaves. Assumes nothing.
use Prim.Native.Nat.{ℕ, ◌≤◌}
use mathlib.Core.Bool.{Bool, true, false, cond}
use mathlib.Core.List.{List}
use mathlib.Core.Path.{◌≡◌, refl}
use lib.Dec.{ltb, eqb}
use lib.ListN.{length}
use borrow.Author.Tests.{ltb-false}
use Rattle.std.specs.Prelude.{Some, Result, Ok, Err}
use Rattle.message.specs.Lengths.{reliable_wrapper}
use Rattle.message.specs.Layouts.{cid_at, wrapper_of, join_of}
use Rattle.message.specs.Reading.{contents}
use Rattle.message.specs.declared.Cid.{Cid}
use Rattle.message.specs.declared.Join.{Join}
use Rattle.refusal.specs.declared.Refusal.{Refusal}
use Rattle.refusal.specs.declared.Refusal.TheVariants as refusal
use Rattle.record.specs.Reasons.{leaving_reason}
use Rattle.record.specs.With.{freed}
use Rattle.record.specs.WellFormed.{most_contents}
use Rattle.wrapper.specs.Judge.{judged}
use Rattle.wrapper.specs.Taken.{taken, stepped_by, stepped}
use Rattle.wrapper.specs.declared.Arrived.{Arrived}
use Rattle.joining.specs.Joining.{existing_of, decided}
use Rattle.joining.specs.declared.Decision.{Decision}
use Rattle.joining.specs.Replies.{departure}
use Rattle.sending.specs.Sent.{sent_of, join_reply_of}
use Rattle.table.specs.Table.{same}
use Rattle.asking.specs.Asking.{arrived_of}
use Rattle.member.specs.Sizes.{table_size, message_sizes, leave_sizes}
use Rattle.demands.specs.Runs.{Came}
use Rattle.demands.specs.Calls as calls
use Rattle.demands.specs.Calls.{Call}
use Rattle.demands.specs.Refusals.{is_wrapper}
use Rattle.demands.specs.Channel.{Channel, Told, refused, joined, left, stays, planned, by_step, wrapper_on, join_on, elapsed_on, leave_on, one}
use Rattle.demands.specs.Order.{time_of}

-- a join_refuse_of, or the answer to a Join
pub data Words : Told → Type 0 where
  refuses : (why : Refusal) → Words (refused why)
  joins : (d : Decision) (reply : List ℕ) → Words (joined d reply)

-- the wrapper that a message brings
abbrev pub brought : ℕ → List ℕ → Arrived
brought v d = arrived_of (eqb v reliable_wrapper) (wrapper_of d) (length (contents d))

pub data Does (h : Channel) : Call → Came Channel Told → Type 0 where
  answers : {c : Call} (t : Told) → Words t → time_of c ≡ 0 → Does h c (stays h t)
  wraps : {held deliver reply : ℕ} {sender ours : List ℕ} (v : ℕ) (d : List ℕ) {n : ℕ} → is_wrapper v ≡ true → length (contents d) ≤ most_contents
      → judged h.at (eqb v reliable_wrapper) (wrapper_of d).total (wrapper_of d).reliable ≡ Ok tt
      → Does h (calls.message held deliver reply sender ours v d n) (planned h (brought v d) (contents d) (taken h.at (brought v d)))
  passes : {cells : ℕ} (ms : ℕ) → Does h (calls.elapsed cells ms) (elapsed_on h ms)
  leaves : {reply : ℕ} {sender : List ℕ} {named : ℕ} (reason : ℕ)
      → Does h (calls.leave reply sender named reason)
      (record {
        state = record { at = freed h.at; held = h.held };
        answer = left (sent_of (departure h.at.terms h.at.reliable reason));
      })

module _ (h : Channel) where
  judged_does : {held deliver reply : ℕ} {sender ours : List ℕ} (v : ℕ) (d : List ℕ) {n : ℕ} → is_wrapper v ≡ true → length (contents d) ≤ most_contents
      → (j : Result (Unit {0}) Refusal) → judged h.at (eqb v reliable_wrapper) (wrapper_of d).total (wrapper_of d).reliable ≡ j
      → Does h (calls.message held deliver reply sender ours v d n) (by_step h (brought v d) (contents d) (stepped_by j h.at (brought v d)))
  judged_does v d w l (Err why) e = answers _ (refuses why) refl
  judged_does v d w l (Ok tt) e = wraps v d w l e

  wrapper_does : {held deliver reply : ℕ} {sender ours : List ℕ} (v : ℕ) (d : List ℕ) {n : ℕ} → is_wrapper v ≡ true
      → Does h (calls.message held deliver reply sender ours v d n) (wrapper_on h v d)
  unfolding wrapper_on stepped
  wrapper_does v d w = by (ltb most_contents (length (contents d))) refl
    where
      by : {held deliver reply : ℕ} {sender ours : List ℕ} {n : ℕ} (b : Bool) → ltb most_contents (length (contents d)) ≡ b
          → Does h (calls.message held deliver reply sender ours v d n)
          (cond b (stays h (refused refusal.ContentsOver)) (by_step h (brought v d) (contents d) (stepped h.at (brought v d))))
      by true e = answers _ (refuses refusal.ContentsOver) refl
      by false e = judged_does v d w (ltb-false _ _ e) _ refl

  join_does : (owner : Cid) (ours : List ℕ) (j : Join) (n : ℕ) (c : Call) → time_of c ≡ 0 → Does h c (join_on h owner ours j n)
  unfolding join_on
  join_does owner ours j n c z = by (same j.cid (cid_at ours 0))
    where
      by : (b : Bool)
          → Does h c
          (cond b
          (stays h (joined (decided j (Some (existing_of h.at)) n true) (join_reply_of owner j n (decided j (Some (existing_of h.at)) n true))))
          (stays h (refused refusal.NotForUs)))
      by true = answers _ (joins _ _) z
      by false = answers _ (refuses refusal.NotForUs) z

  leave_does : {reply : ℕ} {sender : List ℕ} {named : ℕ} (reason : ℕ) → Does h (calls.leave reply sender named reason) (leave_on h reason)
  unfolding leave_on
  leave_does reason = by (leaving_reason reason)
    where
      by : {reply : ℕ} {sender : List ℕ} {named : ℕ} (b : Bool)
          → Does h (calls.leave reply sender named reason)
          (cond b
          (record {
            state = record { at = freed h.at; held = h.held };
            answer = left (sent_of (departure h.at.terms h.at.reliable reason));
          })
          (stays h (refused refusal.WrongReason)))
      by true = leaves reason
      by false = answers _ (refuses refusal.WrongReason) refl

  pub does : (owner : Cid) (c : Call) → Does h c (one owner h c)
  unfolding one
  does owner (calls.message held deliver reply sender ours v d n) =
      by (message_sizes table_size held deliver reply (length sender) (length ours)) (is_wrapper v) refl
    where
      by : (a b : Bool) → is_wrapper v ≡ b
          → Does h (calls.message held deliver reply sender ours v d n)
          (cond a (cond b (wrapper_on h v d) (join_on h owner ours (join_of d) n)) (stays h (refused refusal.WrongSize)))
      by false b e = answers _ (refuses refusal.WrongSize) refl
      by true true e = wrapper_does v d e
      by true false e = join_does owner ours (join_of d) n _ refl
  does owner (calls.elapsed cells ms) = passes ms
  does owner (calls.leave reply sender named reason) = by (leave_sizes table_size reply (length sender))
    where
      by : (a : Bool) → Does h (calls.leave reply sender named reason) (cond a (leave_on h reason) (stays h (refused refusal.WrongSize)))
      by true = leave_does reason
      by false = answers _ (refuses refusal.WrongSize) refl
