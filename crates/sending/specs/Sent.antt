-- The octets of what a member sends (01, "Joining" and "One channel").
use Rattle.std.specs.Prelude.{ℕ, List, [], ◌++◌, ◌≡◌, length}
use Rattle.octets.specs.Octets.{splice}
use Rattle.message.specs.declared.Cid.{Cid}
use Rattle.message.specs.declared.Join.{Join}
use Rattle.message.specs.declared.Message.{Message}
use Rattle.message.specs.declared.Message.TheVariants as message
use Rattle.writing.specs.Writing.{pdu_of}
use Rattle.record.specs.declared.Terms.{Terms}
use Rattle.gap.specs.declared.Event.{Event}
use Rattle.gap.specs.declared.Event.TheVariants as event
use Rattle.wrapper.specs.declared.Reply.{Reply}
use Rattle.wrapper.specs.declared.Reply.TheVariants as reply
use Rattle.joining.specs.Replies.{join_refuse_of, acceptance, departure, missing}
use Rattle.joining.specs.declared.Decision.{Decision}
use Rattle.joining.specs.declared.Decision.TheVariants as decision

-- the octets xs, n of them, stand at the front of a room that was r and then is s, and behind them it is as it was
abbrev pub Put : List ℕ → ℕ → List ℕ → List ℕ → Type 0
Put xs n r s = (n ≡ length xs) × (s ≡ splice r 0 xs)

-- the PDU of a message that carries no contents
abbrev pub sent_of : Message → List ℕ
sent_of m = pdu_of m []

-- the reply of a wrapper's step, on the channel of these terms
unfoldable pub reply_of : Terms → Reply → List ℕ
reply_of t reply.Nothing = []
reply_of t (reply.Ack r) = sent_of (message.Ack r)
reply_of t (reply.Leaving reason r) = sent_of (departure t r reason)

-- what elapsed time makes the channel of these terms send
unfoldable pub event_of : Terms → Event → List ℕ
event_of t event.Nothing = []
event_of t (event.Nak r first last outbound) = sent_of (missing t r first last)
event_of t (event.Leaving reason r) = sent_of (departure t r reason)

-- a new member's reply, where n is the caller's reciprocal number: a Join Accept, and an ACK of the Join's reliable number as a PDU of its own
unfoldable pub welcome_of : Cid → Join → ℕ → List ℕ
welcome_of owner j n = sent_of (acceptance owner j j.reliable n) ++ sent_of (message.Ack j.reliable)

-- the reply to a Join
unfoldable pub join_reply_of : Cid → Join → ℕ → Decision → List ℕ
join_reply_of owner j n (decision.Refuse reason) = sent_of (join_refuse_of owner j reason)
join_reply_of owner j n (decision.Again r reciprocal) = sent_of (acceptance owner j r reciprocal)
join_reply_of owner j n (decision.Make p) = welcome_of owner j n
