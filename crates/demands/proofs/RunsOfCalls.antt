-- Runs are made of what the contracts allow: whatever end the contract of a call over the table allows, the table that the caller then has and the held octets are those that
-- the call leads to in a run (`message_steps`, `elapsed_steps`, `leave_steps`). So the theorems over runs speak of the calls themselves. Assumes nothing.
use Prim.Native.Nat.{ℕ}
use mathlib.Core.List.{List}
use mathlib.Core.Path.{◌≡◌, refl, sym, ap, ◌∙◌}
use lib.ListN.{length}
use borrow.Author.Tests.{eq-eqb}
use Rattle.std.specs.Prelude.{Result, Ok, Err}
use Rattle.refusal.specs.declared.Refusal.{Refusal}
use Rattle.record.specs.declared.Record.{Record}
use Rattle.member.specs.Messages.{Outcome, messaged_as, MessageEnds, message_outcome, MessageAllows}
use Rattle.member.specs.Elapsing.{Passing, passed_as, passed_table, ElapsedEnds, elapsed_outcome, ElapsedAllows}
use Rattle.member.specs.Leaving.{Departing, left_as, LeaveEnds, leave_outcome, LeaveAllows}
use Rattle.member.specs.declared.Messaged.{Messaged}
use Rattle.member.specs.declared.Passed.{Passed}
use Rattle.member.specs.declared.Left.{Left}
use Rattle.demands.specs.Calls as calls
use Rattle.demands.specs.Calls.{State, table_step, table_left}
use Rattle.demands.proofs.Lemmas.Lists.{standing}
use Rattle.demands.proofs.Refusals.{message_stays, elapsed_stays, leave_stays}

-- the table that the caller then has is that of what the call comes to, `after`, if a refused call leaves the table as it was
left_is : {G A : Type 0} (table : A → List Record) (ts after : List Record) (answers : Result G Refusal → Result A Refusal) (given : Result G Refusal)
    → ((g : G) → table_left table ts (answers (Ok g)) ≡ after) → ((why : Refusal) → answers (Err why) ≡ Err why)
    → ((why : Refusal) → given ≡ Err why → after ≡ ts)
    → table_left table ts (answers given) ≡ after
left_is table ts after answers (Ok g) done refuses stays = done g
left_is table ts after answers (Err why) done refuses stays = ap (table_left table ts) (refuses why) ∙ sym (stays why refl)

pub message_steps : (s : State) (deliver reply sender ours : List ℕ) (v : ℕ) (d : List ℕ) (n : ℕ) (e : MessageEnds)
    → MessageAllows s.table s.held deliver reply sender ours v d n e
    → record { table = table_left (λ (a : Messaged). a.table) s.table e.answer; held = e.held }
    ≡ (table_step s (calls.message (length s.held) (length deliver) (length reply) sender ours v d n)).state
unfolding table_step
message_steps s deliver reply sender ours v d n e allowed =
    let out : Outcome = message_outcome s.table s.held (length deliver) (length reply) sender ours v d n in
    rw (eq-eqb (length s.held) (length s.held) refl)
    (ap (λ (x : MessageEnds). record { table = table_left (λ (a : Messaged). a.table) s.table x.answer; held = x.held }) allowed
    ∙ ap (λ (ts : List Record). record { table = ts; held = out.held })
    (left_is (λ (a : Messaged). a.table) s.table out.table (messaged_as out) out.given (λ g. refl) (λ why. refl)
    (λ why f. ap (λ (o : Outcome). o.table) (message_stays s.table s.held (length deliver) (length reply) sender ours v d n why f))))

pub elapsed_steps : (s : State) (cells : List ℕ) (ms : ℕ) (e : ElapsedEnds) → ElapsedAllows s.table cells ms e
    → record { table = table_left (λ (a : Passed). a.table) s.table e.answer; held = s.held }
    ≡ (table_step s (calls.elapsed (length cells) ms)).state
unfolding table_step
elapsed_steps s cells ms e allowed =
    let p : Passing = elapsed_outcome s.table (length cells) ms in
    ap (λ (x : ElapsedEnds). record { table = table_left (λ (a : Passed). a.table) s.table x.answer; held = s.held }) allowed
    ∙ ap (λ (ts : List Record). record { table = ts; held = s.held })
    (left_is (λ (a : Passed). a.table) s.table (passed_table p) (passed_as p) p.given (λ g. refl) (λ why. refl)
    (λ why f. ap passed_table (elapsed_stays s.table (length cells) ms why f) ∙ standing s.table))

pub leave_steps : (s : State) (reply owner : List ℕ) (channel reason : ℕ) (e : LeaveEnds) → LeaveAllows s.table reply owner channel reason e
    → record { table = table_left (λ (a : Left). a.table) s.table e.answer; held = s.held }
    ≡ (table_step s (calls.leave (length reply) owner channel reason)).state
unfolding table_step
leave_steps s reply owner channel reason e allowed =
    let p : Departing = leave_outcome s.table (length reply) owner channel reason in
    ap (λ (x : LeaveEnds). record { table = table_left (λ (a : Left). a.table) s.table x.answer; held = s.held }) allowed
    ∙ ap (λ (ts : List Record). record { table = ts; held = s.held })
    (left_is (λ (a : Left). a.table) s.table p.table (left_as p) p.given (λ g. refl) (λ why. refl)
    (λ why f. ap (λ (q : Departing). q.table) (leave_stays s.table (length reply) owner channel reason why f)))
