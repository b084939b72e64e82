-- What is written is read back (demand 2 of the order): what it is for a message to be read back from the room that it was written into, for data to be written
-- again, for octets to be a block of given messages, and which messages the calls' answers mean.
use Rattle.std.specs.Prelude.{ℕ, ◌<◌, suc, ◌-◌, List, [], ◌∷◌, ◌++◌, Option, Some, None, Result, Ok, Err, ◌≡◌, length, get_or, take, drop}
use Rattle.octets.specs.Octets.{part}
use Rattle.block.specs.Block.{read_block}
use Rattle.block.specs.Written.{pdu}
use Rattle.block.specs.declared.Found.{Found}
use Rattle.message.specs.Reading.{read_message}
use Rattle.message.specs.declared.Cid.{Cid}
use Rattle.message.specs.declared.Join.{Join}
use Rattle.message.specs.declared.Message.TheVariants as message
use Rattle.message.specs.declared.Message.{Message}
use Rattle.message.specs.declared.Wrapper.{Wrapper}
use Rattle.refusal.specs.declared.Refusal.{Refusal}
use Rattle.record.specs.declared.Record.{Record}
use Rattle.record.specs.declared.Terms.{Terms}
use Rattle.gap.specs.declared.Event.TheVariants as event
use Rattle.gap.specs.declared.Event.{Event}
use Rattle.wrapper.specs.declared.Reply.TheVariants as reply
use Rattle.wrapper.specs.declared.Reply.{Reply}
use Rattle.joining.specs.Replies.{departure, join_refuse_of, acceptance, missing}
use Rattle.joining.specs.declared.Decision.TheVariants as decision
use Rattle.joining.specs.declared.Decision.{Decision}
use Rattle.joining.specs.declared.Existing.{Existing}
use Rattle.writing.specs.Fields.{fields_of}
use Rattle.writing.specs.Fits.{Octets, FitCid}
use Rattle.writing.specs.Writing.{vector_of, contents_of, pdu_of, wrote, room_after}
use Rattle.table.specs.Table.{record_at}
use Rattle.member.specs.declared.Given.TheVariants as given
use Rattle.member.specs.declared.Given.{Given}
use Rattle.demands.specs.Calls.{Sound}

-- ---- a message by itself

-- the octets that writing m with the contents c leaves at the front of the room r
abbrev pub written : Message → List ℕ → List ℕ → List ℕ
written m c r = take (length (pdu_of m c)) (room_after m c r)

-- the two messages that carry contents
pub data IsWrapper : Message → Type 0 where
  reliable : (w : Wrapper) → IsWrapper (message.ReliableWrapper w)
  unreliable : (w : Wrapper) → IsWrapper (message.UnreliableWrapper w)

-- m with the contents c, written into the room r, is read back
pub record ReadBack (m : Message) (c r : List ℕ) : Type 0 where
  -- writing answers how many octets it wrote
  pub wrote : wrote m c r ≡ Ok (length (pdu_of m c))
  -- read as a block, they have a message: its vector is the octet at 2, and its data are all octets from 3 on
  pub first : read_block (written m c r) 0 ≡ Ok (Some (record { vector = 2; place = 3; len = length (pdu_of m c) - 3 }))
  -- and they have no other
  pub only : read_block (written m c r) 1 ≡ Ok None
  -- that vector and those data are read as m
  pub message : read_message (get_or (written m c r) 2 0) (drop 3 (written m c r)) ≡ Ok m
  -- and if m is a wrapper, the data behind its own 20 octets are the contents
  pub contents : IsWrapper m → drop 20 (drop 3 (written m c r)) ≡ c

-- the data d under the vector v are what m is written to
pub record WrittenAgain (v : ℕ) (d : List ℕ) (m : Message) : Type 0 where
  pub vector : vector_of m ≡ v
  -- its fields and, if it is a wrapper, as its contents the data behind its own 20 octets
  pub body : fields_of m ++ contents_of m (drop 20 d) ≡ d
  -- so its PDU is the one of this vector and these data
  pub whole : pdu_of m (drop 20 d) ≡ pdu v d

-- ---- the messages of a block

-- the message at position k of the block s is m
pub record ReadAt (s : List ℕ) (k : ℕ) (m : Message) : Type 0 where
  pub found : Found
  pub there : read_block s k ≡ Ok (Some found)
  pub message : read_message (get_or s found.vector 0) (part s found.place found.len) ≡ Ok m

-- from position k on the block s has these messages and no others
abbrev pub ReadFrom : List ℕ → ℕ → List Message → Type 0
ReadFrom s k [] = read_block s k ≡ Ok None
ReadFrom s k (m ∷ ms) = ReadAt s k m × ReadFrom s (suc k) ms

-- ---- which messages a reply, an event and the answer to a Join mean

-- the reply of a step, for a member with the terms t
abbrev pub reply_means : Terms → Reply → List Message
reply_means t reply.Nothing = []
reply_means t (reply.Ack r) = message.Ack r ∷ []
reply_means t (reply.Leaving reason r) = departure t r reason ∷ []

-- what elapsed time sends
abbrev pub event_means : Terms → Event → List Message
event_means t event.Nothing = []
event_means t (event.Nak r first last outbound) = missing t r first last ∷ []
event_means t (event.Leaving reason r) = departure t r reason ∷ []

-- the answer to the Join j of this owner, where n is the caller's reciprocal number
abbrev pub join_means : Cid → Join → ℕ → Decision → List Message
join_means owner j n (decision.Refuse reason) = join_refuse_of owner j reason ∷ []
join_means owner j n (decision.Again r reciprocal) = acceptance owner j r reciprocal ∷ []
join_means owner j n (decision.Make p) = acceptance owner j j.reliable n ∷ message.Ack j.reliable ∷ []

-- what the answer to a message says is sent: o is the sender, j the Join that its data are if it is one, n the caller's reciprocal number
abbrev pub given_means : List Record → Cid → Join → ℕ → Result Given Refusal → List Message
given_means ts o j n (Err why) = []
given_means ts o j n (Ok (given.Joined at answer)) = join_means o j n answer
given_means ts o j n (Ok (given.Wrapped at fate thrown sent)) = reply_means (record_at ts at).terms sent

-- a Leaving of the record that was left, with its R and the caller's reason
abbrev pub leave_means : List Record → ℕ → Result ℕ Refusal → List Message
leave_means ts reason (Ok at) = departure (record_at ts at).terms (record_at ts at).reliable reason ∷ []
leave_means ts reason (Err why) = []

-- ---- numbers of the width of their fields

-- the names and the reciprocal channel of a member
pub record FitTerms (t : Terms) : Type 0 where
  pub owner : FitCid t.owner
  pub channel : Octets 2 t.channel
  pub mid : Octets 2 t.mid
  pub reciprocal : Octets 2 t.reciprocal

-- the numbers of a reply, of an event, of an answer to a Join, and of the record that the table has for it.
abbrev pub FitReply : Reply → Type 0
FitReply reply.Nothing = Unit {0}
FitReply (reply.Ack r) = Octets 4 r.0
FitReply (reply.Leaving reason r) = Octets 1 reason × Octets 4 r.0

abbrev pub FitEvent : Event → Type 0
FitEvent event.Nothing = Unit {0}
FitEvent (event.Nak r first last outbound) = Octets 4 r.0 × Octets 4 first.0 × Octets 4 last.0
FitEvent (event.Leaving reason r) = Octets 1 reason × Octets 4 r.0

abbrev pub FitDecision : Decision → Type 0
FitDecision (decision.Refuse reason) = Octets 1 reason
FitDecision (decision.Again r reciprocal) = Octets 4 r.0 × Octets 2 reciprocal
FitDecision (decision.Make p) = Unit {0}

-- who asks to join, by which channel and MID, and at which number
pub record FitAsked (sender : Cid) (j : Join) : Type 0 where
  pub owner : FitCid sender
  pub channel : Octets 2 j.channel
  pub mid : Octets 2 j.mid
  pub reliable : Octets 4 j.reliable.0

abbrev pub FitExisting : Option Existing → Type 0
FitExisting (Some e) = Octets 4 e.reliable.0 × Octets 2 e.reciprocal
FitExisting None = Unit {0}

-- the records of a table have numbers of the widths of their fields
abbrev pub Wide : List Record → Type 0
Wide ts = (k : ℕ) → k < length ts → Sound (record_at ts k) × FitTerms (record_at ts k).terms
