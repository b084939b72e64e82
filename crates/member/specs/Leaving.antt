-- A leave call (01, "Refusal numbers" and the end of "One channel"): ts is the table.
use Rattle.std.specs.Prelude.{ℕ, cond, not, List, [], Option, Some, None, Result, Ok, Err, ◌≡◌, length, set}
use Rattle.octets.specs.Octets.{splice}
use Rattle.message.specs.Layouts.{cid_at}
use Rattle.record.specs.Reasons.{leaving_reason}
use Rattle.record.specs.With.{freed}
use Rattle.record.specs.declared.Record.{Record}
use Rattle.refusal.specs.declared.Refusal.{Refusal}
use Rattle.refusal.specs.declared.Refusal.TheVariants as refusal
use Rattle.joining.specs.Replies.{departure}
use Rattle.table.specs.Table.{found, table_formed, record_at}
use Rattle.sending.specs.Sent.{sent_of}
use Rattle.member.specs.Sizes.{leave_sizes}
use Rattle.member.specs.declared.Left.{Left}

-- ---- as values

-- the table after the call, which record was left or why the call is refused, and the octets of the reply
pub record Departing : Type 0 where
  pub table : List Record
  pub given : Result ℕ Refusal
  pub reply : List ℕ

-- refused: all stands
abbrev pub refused_leave : List Record → Refusal → Departing
refused_leave ts why = record { table = ts; given = Err why; reply = [] }

-- record i is left: a Leaving with this reason goes out, and the record is free
unfoldable pub departing : List Record → ℕ → ℕ → Departing
departing ts i reason =
    record {
      table = set ts i (freed (record_at ts i));
      given = Ok i;
      reply = sent_of (departure (record_at ts i).terms (record_at ts i).reliable reason);
    }

-- 6 if the search found no record; 10 if it did and the reason is none of a Leaving
abbrev pub leave_for : List Record → ℕ → Option ℕ → Departing
leave_for ts reason None = refused_leave ts refusal.NoRecord
leave_for ts reason (Some i) = cond (leaving_reason reason) (departing ts i reason) (refused_leave ts refusal.WrongReason)

-- the refusals in their order: 1, 2, 6, 10. Of the reply room only its size plays a part
unfoldable pub leave_outcome : List Record → ℕ → List ℕ → ℕ → ℕ → Departing
leave_outcome ts reply owner channel reason =
    cond (not (leave_sizes (length ts) reply (length owner))) (refused_leave ts refusal.WrongSize)
    (cond (not (table_formed ts)) (refused_leave ts refusal.WrongTable)
    (leave_for ts reason (found (cid_at owner 0) channel ts)))

-- ---- written into the reply room

-- what is answered where this is given
abbrev pub left_as : Departing → Result ℕ Refusal → Result Left Refusal
left_as p (Ok i) = Ok (record { table = p.table; at = i; reply = length p.reply })
left_as p (Err why) = Err why

abbrev pub left : Departing → Result Left Refusal
left p = left_as p p.given

abbrev pub left_reply : Departing → List ℕ → List ℕ
left_reply p room = splice room 0 p.reply

-- ---- all that stands after the call, and what its contract allows

-- the answer, and what the reply room holds
pub record LeaveEnds : Type 0 where
  pub answer : Result Left Refusal
  pub reply : List ℕ

-- what `p` leaves, where `reply` lay in the room before
abbrev pub leave_end : Departing → List ℕ → LeaveEnds
leave_end p reply = record { answer = left p; reply = left_reply p reply }

-- the call ends as `p` says
abbrev pub LeaveEndsAs : Departing → List ℕ → LeaveEnds → Type 0
LeaveEndsAs p reply end = end ≡ leave_end p reply

-- what the contract of a leave call allows
abbrev pub LeaveAllows : List Record → List ℕ → List ℕ → ℕ → ℕ → LeaveEnds → Type 0
LeaveAllows ts reply owner channel reason end = LeaveEndsAs (leave_outcome ts (length reply) owner channel reason) reply end
