-- A message call (01, "Refusal numbers", "Joining" and "One channel"): what it does as values and lists of octets, and then what is written into the
-- lent rooms. ts is the table, s the sender's CID and o ours, v the vector, d the data and n the caller's reciprocal number.
use Rattle.std.specs.Prelude.{ℕ, cond, not, List, [], Option, Some, None, is_some, option_map, Result, Ok, Err, ◌≡◌, length, set}
use Rattle.octets.specs.Octets.{splice}
use Rattle.message.specs.Layouts.{cid_at}
use Rattle.message.specs.Reading.{contents}
use Rattle.message.specs.declared.Cid.{Cid}
use Rattle.message.specs.declared.Join.{Join}
use Rattle.record.specs.declared.Record.{Record}
use Rattle.refusal.specs.Numbers as numbers
use Rattle.refusal.specs.declared.Refusal.{Refusal}
use Rattle.refusal.specs.declared.Refusal.TheVariants as refusal
use Rattle.wrapper.specs.Taken.{stepped}
use Rattle.wrapper.specs.declared.Arrived.{Arrived}
use Rattle.wrapper.specs.declared.Plan.{Plan}
use Rattle.joining.specs.Joining.{existing_of, decided, new_record}
use Rattle.joining.specs.declared.Existing.{Existing}
use Rattle.joining.specs.declared.Decision.{Decision}
use Rattle.joining.specs.declared.Decision.TheVariants as decision
use Rattle.table.specs.Table.{found, lowest_free, table_formed, record_at}
use Rattle.sending.specs.Sent.{reply_of, join_reply_of}
use Rattle.carry.specs.Carried.{Delivered, held_after, delivered_by, deliver_from, no_deliveries, listed}
use Rattle.asking.specs.Asking.{asked_of}
use Rattle.asking.specs.declared.Asked.{Asked}
use Rattle.asking.specs.declared.Asked.TheVariants as asked
use Rattle.member.specs.Sizes.{message_sizes}
use Rattle.member.specs.declared.Given.{Given}
use Rattle.member.specs.declared.Given.TheVariants as given
use Rattle.member.specs.declared.Messaged.{Messaged}

-- ---- as values

-- what a message call comes to: the table and the held octets after it, what it gives or why it is refused, what it delivers and the octets of its reply
pub record Outcome : Type 0 where
  pub table : List Record
  pub held : List ℕ
  pub given : Result Given Refusal
  pub delivered : List Delivered
  pub reply : List ℕ

-- refused: all stands, and the refusal is the whole answer
abbrev pub refused_message : List Record → List ℕ → Refusal → Outcome
refused_message ts held why = record { table = ts; held = held; given = Err why; delivered = []; reply = [] }

-- what the table has for a Join
abbrev pub existing_at : List Record → Option ℕ → Option Existing
existing_at ts at = option_map (λ i. existing_of (record_at ts i)) at

-- the record that the Join's channel has after the call: the new one, or the one it had
abbrev pub joined_at : Decision → Option ℕ → Option ℕ → Option ℕ
joined_at (decision.Refuse reason) known free = known
joined_at (decision.Again r reciprocal) known free = known
joined_at (decision.Make p) known free = free

-- a new record stands in the lowest free one; any other answer leaves the table. (Without a free one no record is made: `decided`)
abbrev pub table_after : List Record → Cid → Join → ℕ → Decision → Option ℕ → List Record
table_after ts s j n (decision.Refuse reason) free = ts
table_after ts s j n (decision.Again r reciprocal) free = ts
table_after ts s j n (decision.Make p) (Some i) = set ts i (new_record (record_at ts i) s j p n)
table_after ts s j n (decision.Make p) None = ts

abbrev pub join_done : List Record → List ℕ → Cid → Join → ℕ → Option ℕ → Option ℕ → Decision → Outcome
join_done ts held s j n known free answer =
    record {
      table = table_after ts s j n answer free;
      held = held;
      given = Ok (given.Joined (joined_at answer known free) answer);
      delivered = [];
      reply = join_reply_of s j n answer;
    }

unfoldable pub join_outcome : List Record → List ℕ → Cid → Join → ℕ → Outcome
join_outcome ts held s j n =
    join_done ts held s j n (found s j.channel ts) (lowest_free ts)
    (decided j (existing_at ts (found s j.channel ts)) n (is_some (lowest_free ts)))

-- the plan of record i for the wrapper w with contents c
unfoldable pub plan_outcome : List Record → List ℕ → ℕ → Arrived → List ℕ → Plan → Outcome
plan_outcome ts held i w c p =
    record {
      table = set ts i p.after;
      held = held_after i p.fate c held;
      given = Ok (given.Wrapped i p.fate p.thrown p.reply);
      delivered = delivered_by held i w c p;
      reply = reply_of p.after.terms p.reply;
    }

-- step 1 refuses by 8 or 9; what it lets pass is carried out
abbrev pub stepped_outcome : List Record → List ℕ → ℕ → Arrived → List ℕ → Result Plan Refusal → Outcome
stepped_outcome ts held i w c (Ok plan) = plan_outcome ts held i w c plan
stepped_outcome ts held i w c (Err why) = refused_message ts held why

unfoldable pub wrapper_outcome : List Record → List ℕ → ℕ → Arrived → List ℕ → Outcome
wrapper_outcome ts held i w c = stepped_outcome ts held i w c (stepped (record_at ts i) w)

-- c are the contents that the message has if it is a wrapper
abbrev pub asked_outcome : List Record → List ℕ → Cid → ℕ → List ℕ → Result Asked Refusal → Outcome
asked_outcome ts held s n c (Err why) = refused_message ts held why
asked_outcome ts held s n c (Ok (asked.Join j)) = join_outcome ts held s j n
asked_outcome ts held s n c (Ok (asked.Wrapper i w)) = wrapper_outcome ts held i w c

-- the refusals in their order: 1 by the sizes, 2 by the table, 4 to 7 by what the message asks, 8 and 9 by the step. Of the rooms only the
-- sizes `deliver` and `reply` play a part, not what lay in them
unfoldable pub message_outcome : List Record → List ℕ → ℕ → ℕ → List ℕ → List ℕ → ℕ → List ℕ → ℕ → Outcome
message_outcome ts held deliver reply sender ours v d n =
    cond (not (message_sizes (length ts) (length held) deliver reply (length sender) (length ours))) (refused_message ts held refusal.WrongSize)
    (cond (not (table_formed ts)) (refused_message ts held refusal.WrongTable)
    (asked_outcome ts held (cid_at sender 0) n (contents d) (asked_of ts (cid_at sender 0) (cid_at ours 0) v d)))

-- 01's number for what any of the three calls gives; 0 if the call is accepted
abbrev pub number_of : {A : Type 0} → Result A Refusal → ℕ
number_of (Ok done) = 0
number_of (Err why) = numbers.number_of why

-- ---- written into the lent rooms

-- what is answered where this is given
abbrev pub messaged_as : Outcome → Result Given Refusal → Result Messaged Refusal
messaged_as out (Ok done) =
    Ok (record {
      table = out.table;
      given = done;
      deliveries = listed no_deliveries out.delivered;
      reply = length out.reply;
    })
messaged_as out (Err why) = Err why

abbrev pub messaged : Outcome → Result Messaged Refusal
messaged out = messaged_as out out.given

abbrev pub deliver_after : Outcome → List ℕ → List ℕ
deliver_after out room = deliver_from 0 out.delivered room

abbrev pub reply_after : Outcome → List ℕ → List ℕ
reply_after out room = splice room 0 out.reply

-- ---- all that stands after the call, and what its contract allows

-- the answer, and what the held octets and the two rooms hold
pub record MessageEnds : Type 0 where
  pub answer : Result Messaged Refusal
  pub held : List ℕ
  pub deliver : List ℕ
  pub reply : List ℕ

-- what an outcome leaves, where `deliver` and `reply` lay in the rooms before
abbrev pub message_end : Outcome → List ℕ → List ℕ → MessageEnds
message_end out deliver reply =
    record {
      answer = messaged out;
      held = out.held;
      deliver = deliver_after out deliver;
      reply = reply_after out reply;
    }

-- the call ends as the outcome says
abbrev pub MessageEndsAs : Outcome → List ℕ → List ℕ → MessageEnds → Type 0
MessageEndsAs out deliver reply end = end ≡ message_end out deliver reply

-- what the contract of a message call allows, from the table and the octets that the call is given and lent
abbrev pub MessageAllows : List Record → List ℕ → List ℕ → List ℕ → List ℕ → List ℕ → ℕ → List ℕ → ℕ → MessageEnds → Type 0
MessageAllows ts held deliver reply sender ours v d n end =
    MessageEndsAs (message_outcome ts held (length deliver) (length reply) sender ours v d n) deliver reply end
