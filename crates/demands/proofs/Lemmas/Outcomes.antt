-- One case split over each call on any table (`message_cases`, `leave_cases`, `elapsed_cases`): what holds of every refusal and of what is accepted holds of what the call
-- comes to. A message call accepts the answer to the Join that it brings, and a plan that is carried out for the wrapper that it brings. Assumes nothing.
use Prim.{Unit}
use Prim.Native.Nat.{ℕ, ◌<◌, ◌≤◌}
use mathlib.Core.Bool.{Bool, true, false, cond, not}
use mathlib.Core.List.{List}
use mathlib.Core.Path.{◌≡◌, refl}
use lib.Dec.{ltb, eqb}
use lib.ListN.{length}
use borrow.Author.Tests.{ltb-false}
use Rattle.std.specs.Prelude.{Option, Some, None, Result, Ok, Err}
use Rattle.message.specs.Lengths.{reliable_wrapper}
use Rattle.message.specs.Layouts.{cid_at, wrapper_of, join_of}
use Rattle.message.specs.Reading.{readable, contents}
use Rattle.message.specs.declared.Cid.{Cid}
use Rattle.refusal.specs.declared.Refusal.{Refusal}
use Rattle.refusal.specs.declared.Refusal.TheVariants as refusal
use Rattle.record.specs.Reasons.{leaving_reason}
use Rattle.record.specs.WellFormed.{most_contents}
use Rattle.record.specs.declared.Record.{Record}
use Rattle.wrapper.specs.Judge.{judged}
use Rattle.wrapper.specs.Taken.{taken, stepped_by, stepped}
use Rattle.table.specs.Table.{same, found, table_formed, record_at}
use Rattle.table.proofs.Finding.{found_at_lem}
use Rattle.table.proofs.Tables.{named_is}
use Rattle.asking.specs.Asking.{wrapper_for, wrapper_asks, join_asks, asked_of}
use Rattle.asking.specs.declared.Asked.{Asked}
use Rattle.asking.specs.declared.Asked.TheVariants as asked
use Rattle.member.specs.Sizes.{message_sizes, elapsed_sizes, leave_sizes}
use Rattle.member.specs.Elapsing.{longest, Passing, refused_elapsed, passing, elapsed_outcome}
use Rattle.member.specs.Leaving.{Departing, refused_leave, departing, leave_for, leave_outcome}
use Rattle.member.specs.Messages.{Outcome, refused_message, join_outcome, plan_outcome, stepped_outcome, wrapper_outcome, asked_outcome, message_outcome}
use Rattle.record.proofs.Choices.{either}
use Rattle.demands.specs.Refusals.{is_wrapper}
use Rattle.demands.proofs.Lemmas.Asks as asks
use Rattle.demands.proofs.Lemmas.Asks.{Asks}
use Rattle.demands.proofs.Lemmas.OneStep.{brought}

-- a plan that is carried out: the data d of vector v from s are a wrapper for the used record i, which passes step 1, and the contents fit a place
pub record Carries (ts : List Record) (s : Cid) (v : ℕ) (d : List ℕ) (i : ℕ) : Type 0 where
  pub readable : readable v d ≡ true
  pub wrapper : is_wrapper v ≡ true
  pub finds : found s (wrapper_of d).channel ts ≡ Some i
  pub within : i < length ts
  pub used : (record_at ts i).used ≡ true
  pub most : length (contents d) ≤ most_contents
  pub fresh : stepped (record_at ts i) (brought v d) ≡ Ok (taken (record_at ts i) (brought v d))

module _ (ts : List Record) (held : List ℕ) (deliver reply : ℕ) (sender ours : List ℕ) (v : ℕ) (d : List ℕ) (n : ℕ) where
  abbrev s : Cid
  s = cid_at sender 0

  -- what the call is lent has the right sizes
  abbrev pub Sized : Type 0
  Sized = message_sizes (length ts) (length held) deliver reply (length sender) (length ours) ≡ true

  module _ (P : Outcome → Type 0) (refuses : (why : Refusal) → P (refused_message ts held why))
      (joins : P (join_outcome ts held s (join_of d) n))
      (plans : Sized → (i : ℕ) → Carries ts s v d i
      → P (plan_outcome ts held i (brought v d) (contents d) (taken (record_at ts i) (brought v d))))
    where
      wrapper_case : Sized → readable v d ≡ true → is_wrapper v ≡ true → (f : Option ℕ) → found s (wrapper_of d).channel ts ≡ f
          → P (asked_outcome ts held s n (contents d) (wrapper_for f (eqb v reliable_wrapper) (wrapper_of d) (length (contents d))))
      unfolding wrapper_outcome stepped
      wrapper_case sized r w None e = refuses refusal.NoRecord
      wrapper_case sized r w (Some i) e = long (ltb most_contents (length (contents d))) refl
        where
          by : length (contents d) ≤ most_contents → (j : Result (Unit {0}) Refusal)
              → judged (record_at ts i) (brought v d).reliably (brought v d).total (brought v d).reliable ≡ j
              → P (stepped_outcome ts held i (brought v d) (contents d) (stepped_by j (record_at ts i) (brought v d)))
          by l (Err why) f = refuses why
          by l (Ok passed) f =
              let met = found_at_lem s (wrapper_of d).channel ts i e in
              plans sized i
              (record {
                readable = r;
                wrapper = w;
                finds = e;
                within = met.0;
                used = (named_is s (wrapper_of d).channel (record_at ts i) met.1).0;
                most = l;
                fresh = rw f refl;
              })

          long : (b : Bool) → ltb most_contents (length (contents d)) ≡ b
              → P (asked_outcome ts held s n (contents d) (cond b (Err refusal.ContentsOver) (Ok (asked.Wrapper i (brought v d)))))
          long true l = refuses refusal.ContentsOver
          long false l = by (ltb-false most_contents (length (contents d)) l) _ refl

      asked_case : Sized → {a : Result Asked Refusal} → Asks ts s (cid_at ours 0) v d a → P (asked_outcome ts held s n (contents d) a)
      unfolding join_asks wrapper_asks
      asked_case sized (asks.refuses why) = refuses why
      asked_case sized (asks.joins r e) =
          either (λ (a : Result Asked Refusal). P (asked_outcome ts held s n (contents d) a)) (same (join_of d).cid (cid_at ours 0)) _ _ joins
          (refuses refusal.NotForUs)
      asked_case sized (asks.wraps r w) = wrapper_case sized r w (found s (wrapper_of d).channel ts) refl

      pub message_cases : P (message_outcome ts held deliver reply sender ours v d n)
      unfolding message_outcome
      message_cases = by (message_sizes (length ts) (length held) deliver reply (length sender) (length ours)) refl
        where
          by : (b : Bool) → message_sizes (length ts) (length held) deliver reply (length sender) (length ours) ≡ b
              → P
              (cond (not b) (refused_message ts held refusal.WrongSize)
              (cond (not (table_formed ts)) (refused_message ts held refusal.WrongTable)
              (asked_outcome ts held s n (contents d) (asked_of ts s (cid_at ours 0) v d))))
          by false e = refuses refusal.WrongSize
          by true e =
              either P (not (table_formed ts)) _ _ (refuses refusal.WrongTable) (asked_case e (asks.asks ts s (cid_at ours 0) v d))

-- ---- a leave call

module _ (ts : List Record) (reply : ℕ) (owner : List ℕ) (channel reason : ℕ) where
  pub leave_cases : (P : Departing → Type 0) → ((why : Refusal) → P (refused_leave ts why))
      → ((i : ℕ) → leave_sizes (length ts) reply (length owner) ≡ true → found (cid_at owner 0) channel ts ≡ Some i → leaving_reason reason ≡ true
      → P (departing ts i reason))
      → P (leave_outcome ts reply owner channel reason)
  unfolding leave_outcome
  leave_cases P refuses departs = by (leave_sizes (length ts) reply (length owner)) refl
    where
      on : leave_sizes (length ts) reply (length owner) ≡ true → (f : Option ℕ) (b : Bool) → found (cid_at owner 0) channel ts ≡ f
          → leaving_reason reason ≡ b → P (leave_for ts reason f)
      on l None b e r = refuses refusal.NoRecord
      on l (Some i) true e r = rw r (departs i l e r)
      on l (Some i) false e r = rw r (refuses refusal.WrongReason)

      by : (b : Bool) → leave_sizes (length ts) reply (length owner) ≡ b
          → P
          (cond (not b) (refused_leave ts refusal.WrongSize)
          (cond (not (table_formed ts)) (refused_leave ts refusal.WrongTable) (leave_for ts reason (found (cid_at owner 0) channel ts))))
      by false l = refuses refusal.WrongSize
      by true l = either P (not (table_formed ts)) _ _ (refuses refusal.WrongTable) (on l _ _ refl refl)

-- ---- an elapsed call

pub elapsed_cases : (ts : List Record) (cells ms : ℕ) (P : Passing → Type 0) → ((why : Refusal) → P (refused_elapsed ts why)) → P (passing ts ms)
    → P (elapsed_outcome ts cells ms)
unfolding elapsed_outcome
elapsed_cases ts cells ms P refuses passes =
    either P (not (elapsed_sizes (length ts) cells)) _ _ (refuses refusal.WrongSize)
    (either P (not (table_formed ts)) _ _ (refuses refusal.WrongTable)
    (either P (ltb longest ms) _ _ (refuses refusal.TooMuchTime) passes))
