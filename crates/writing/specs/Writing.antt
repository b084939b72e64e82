-- Writing a message into a lent room (01, "Refusal numbers" and "Blocks and layouts"): m is the message, c the contents and r the room.
use Rattle.std.specs.Prelude.{ℕ, Bool, cond, not, List, ◌++◌, length, take, ltb, Result, Ok, Err}
use Rattle.refusal.specs.declared.Refusal.{Refusal}
use Rattle.refusal.specs.declared.Refusal.TheVariants as refusal
use Rattle.octets.specs.Octets.{splice}
use Rattle.block.specs.Written.{pdu}
use Rattle.message.specs.Lengths.{reliable_wrapper, unreliable_wrapper, join, join_refuse, join_accept, leaving, ack, nak, get_sessions, null, ipv4, most_contents}
use Rattle.message.specs.declared.Address.{Address}
use Rattle.message.specs.declared.Address.TheVariants as address
use Rattle.message.specs.declared.Message.{Message}
use Rattle.message.specs.declared.Message.TheVariants as message
use Rattle.writing.specs.Fields.{fields_of}

unfoldable pub vector_of : Message → ℕ
vector_of (message.ReliableWrapper w) = reliable_wrapper
vector_of (message.UnreliableWrapper w) = unreliable_wrapper
vector_of (message.Join j) = join
vector_of (message.JoinRefuse m reason) = join_refuse
vector_of (message.JoinAccept m reciprocal) = join_accept
vector_of (message.Leaving m reason) = leaving
vector_of (message.Ack r) = ack
vector_of (message.Nak m first last) = nak
vector_of (message.GetSessions cid) = get_sessions

-- the row of the table for an address; 2 stands for every type that has no row
abbrev pub type_of : Address → ℕ
type_of (address.Null p) = null
type_of (address.Ipv4 e p) = ipv4
type_of (address.Other t) = 2

unfoldable pub address_of : Message → ℕ
address_of (message.ReliableWrapper w) = null
address_of (message.UnreliableWrapper w) = null
address_of (message.Join j) = type_of j.address
address_of (message.JoinRefuse m reason) = null
address_of (message.JoinAccept m reciprocal) = null
address_of (message.Leaving m reason) = null
address_of (message.Ack r) = null
address_of (message.Nak m first last) = null
address_of (message.GetSessions cid) = null

-- a Join with another address type than null or IPv4 has no written form
unfoldable pub has_form : Message → Bool
has_form m = ltb (address_of m) 2

-- contents are a wrapper's: of len octets that many are carried. With any other message they are not looked at
unfoldable pub carried_of : Message → ℕ → ℕ
carried_of (message.ReliableWrapper w) len = len
carried_of (message.UnreliableWrapper w) len = len
carried_of (message.Join j) len = 0
carried_of (message.JoinRefuse m reason) len = 0
carried_of (message.JoinAccept m reciprocal) len = 0
carried_of (message.Leaving m reason) len = 0
carried_of (message.Ack r) len = 0
carried_of (message.Nak m first last) len = 0
carried_of (message.GetSessions cid) len = 0

abbrev pub contents_of : Message → List ℕ → List ℕ
contents_of m c = take (carried_of m (length c)) c

-- the message's PDU
unfoldable pub pdu_of : Message → List ℕ → List ℕ
pdu_of m c = pdu (vector_of m) (fields_of m ++ contents_of m c)

-- writing checks 4, then 1, then 7
unfoldable pub wrote : Message → List ℕ → List ℕ → Result ℕ Refusal
wrote m c r =
    cond (not (has_form m)) (Err refusal.NoForm)
    (cond (ltb (length r) (length (pdu_of m c))) (Err refusal.WrongSize)
    (cond (ltb most_contents (length (contents_of m c))) (Err refusal.ContentsOver)
    (Ok (length (pdu_of m c)))))

-- what the room then holds: the PDU at its front and all else as it was, or after a refusal what it held before
abbrev pub leaves : Result ℕ Refusal → Message → List ℕ → List ℕ → List ℕ
leaves (Ok n) m c r = splice r 0 (pdu_of m c)
leaves (Err why) m c r = r

unfoldable pub room_after : Message → List ℕ → List ℕ → List ℕ
room_after m c r = leaves (wrote m c r) m c r
