-- What a message asks of the table (01, "Refusal numbers" 4 to 7): ts is the table, s the sender's CID and o ours.
use Rattle.std.specs.Prelude.{ℕ, Bool, true, false, cond, List, Option, Some, None, Result, Ok, Err, length, ltb}
use Rattle.message.specs.Reading.{read_message, contents}
use Rattle.message.specs.declared.Cid.{Cid}
use Rattle.message.specs.declared.Join.{Join}
use Rattle.message.specs.declared.Wrapper.{Wrapper}
use Rattle.message.specs.declared.Message.{Message}
use Rattle.message.specs.declared.Message.TheVariants as message
use Rattle.record.specs.WellFormed.{most_contents}
use Rattle.record.specs.declared.Record.{Record}
use Rattle.refusal.specs.declared.Refusal.{Refusal}
use Rattle.refusal.specs.declared.Refusal.TheVariants as refusal
use Rattle.wrapper.specs.declared.Arrived.{Arrived}
use Rattle.table.specs.Table.{same, found}
use Rattle.asking.specs.declared.Asked.{Asked}
use Rattle.asking.specs.declared.Asked.TheVariants as asked

-- the wrapper as a channel's step takes it: its numbers, and the length of its contents
abbrev pub arrived_of : Bool → Wrapper → ℕ → Arrived
arrived_of reliably w len =
    record {
      reliably = reliably;
      total = w.total;
      reliable = w.reliable;
      oldest = w.oldest;
      first = w.first;
      last = w.last;
      threshold = w.threshold;
      len = len;
    }

-- 6 if the search found no record; 7 if it did and the contents are longer than a place; else a step of the record found
abbrev pub wrapper_for : Option ℕ → Bool → Wrapper → ℕ → Result Asked Refusal
wrapper_for None reliably w len = Err refusal.NoRecord
wrapper_for (Some i) reliably w len = cond (ltb most_contents len) (Err refusal.ContentsOver) (Ok (asked.Wrapper i (arrived_of reliably w len)))

-- a wrapper belongs to the record of its sender and of the channel that it names
unfoldable pub wrapper_asks : List Record → Cid → Bool → Wrapper → ℕ → Result Asked Refusal
wrapper_asks ts s reliably w len = wrapper_for (found s w.channel ts) reliably w len

-- 5 if a Join is meant for another component than ours
unfoldable pub join_asks : Cid → Join → Result Asked Refusal
join_asks o j = cond (same j.cid o) (Ok (asked.Join j)) (Err refusal.NotForUs)

-- 5 for every other base message. An ACK is readable but comes wrapped: it is no base message, and so 4. len is the length of a wrapper's contents
abbrev pub message_asks : List Record → Cid → Cid → Message → ℕ → Result Asked Refusal
message_asks ts s o (message.ReliableWrapper w) len = wrapper_asks ts s true w len
message_asks ts s o (message.UnreliableWrapper w) len = wrapper_asks ts s false w len
message_asks ts s o (message.Join j) len = join_asks o j
message_asks ts s o (message.JoinRefuse m reason) len = Err refusal.NotForUs
message_asks ts s o (message.JoinAccept m reciprocal) len = Err refusal.NotForUs
message_asks ts s o (message.Leaving m reason) len = Err refusal.NotForUs
message_asks ts s o (message.Ack r) len = Err refusal.NoForm
message_asks ts s o (message.Nak m first last) len = Err refusal.NotForUs
message_asks ts s o (message.GetSessions cid) len = Err refusal.NotForUs

-- what cannot be read is refused as reading refuses it, by 4
abbrev pub read_asks : List Record → Cid → Cid → Result Message Refusal → ℕ → Result Asked Refusal
read_asks ts s o (Ok m) len = message_asks ts s o m len
read_asks ts s o (Err why) len = Err why

-- v is the vector and d the data
unfoldable pub asked_of : List Record → Cid → Cid → ℕ → List ℕ → Result Asked Refusal
asked_of ts s o v d = read_asks ts s o (read_message v d) (length (contents d))
