-- How long what a member sends is: each message has one length, and no reply or event is over the 64 octets that a caller lends.
-- Over the definitions; assumes nothing.
use Prim.Native.Nat.{ℕ, ◌≤◌}
use mathlib.Core.Path.{◌≡◌, refl}
use lib.ListN.{length}
use lib.Dec.{lit≤}
use Rattle.octets.specs.Octets.{octets}
use Rattle.counter.specs.declared.Reliable.{Reliable}
use Rattle.message.specs.declared.Cid.{Cid}
use Rattle.message.specs.declared.Join.{Join}
use Rattle.message.specs.declared.Message.TheVariants as message
use Rattle.record.specs.declared.Terms.{Terms}
use Rattle.gap.specs.declared.Event.{Event}
use Rattle.gap.specs.declared.Event.TheVariants as event
use Rattle.wrapper.specs.declared.Reply.{Reply}
use Rattle.wrapper.specs.declared.Reply.TheVariants as reply
use Rattle.joining.specs.declared.Decision.{Decision}
use Rattle.joining.specs.declared.Decision.TheVariants as decision
use Rattle.writing.specs.Fields.{cid_octets, membership_octets, fields_of}
use Rattle.writing.specs.Writing.{carried_of, pdu_of}
use Rattle.joining.specs.Replies.{join_refuse_of, acceptance, departure, missing}
use Rattle.sending.specs.Sent.{sent_of, reply_of, event_of, welcome_of, join_reply_of}

-- ---- each message

pub ack_length : (r : Reliable) → length (sent_of (message.Ack r)) ≡ 7
unfolding octets fields_of carried_of pdu_of
ack_length r = refl

pub leaving_length : (t : Terms) (r : Reliable) (reason : ℕ) → length (sent_of (departure t r reason)) ≡ 28
unfolding octets cid_octets membership_octets fields_of carried_of pdu_of departure
leaving_length t r reason = refl

pub nak_length : (t : Terms) (r first last : Reliable) → length (sent_of (missing t r first last)) ≡ 35
unfolding octets cid_octets membership_octets fields_of carried_of pdu_of missing
nak_length t r first last = refl

pub refuse_length : (owner : Cid) (j : Join) (reason : ℕ) → length (sent_of (join_refuse_of owner j reason)) ≡ 28
unfolding octets cid_octets membership_octets fields_of carried_of pdu_of join_refuse_of
refuse_length owner j reason = refl

pub accept_length : (owner : Cid) (j : Join) (r : Reliable) (n : ℕ) → length (sent_of (acceptance owner j r n)) ≡ 29
unfolding octets cid_octets membership_octets fields_of carried_of pdu_of acceptance
accept_length owner j r n = refl

-- a Join Accept and the ACK behind it
pub welcome_length : (owner : Cid) (j : Join) (n : ℕ) → length (welcome_of owner j n) ≡ 36
unfolding octets cid_octets membership_octets fields_of carried_of pdu_of acceptance welcome_of
welcome_length owner j n = refl

-- ---- all within 64 octets

pub reply_within : (t : Terms) (x : Reply) → length (reply_of t x) ≤ 64
unfolding octets cid_octets membership_octets fields_of carried_of pdu_of departure reply_of
reply_within t reply.Nothing = lit≤ tt
reply_within t (reply.Ack r) = lit≤ tt
reply_within t (reply.Leaving reason r) = lit≤ tt

pub event_within : (t : Terms) (x : Event) → length (event_of t x) ≤ 64
unfolding octets cid_octets membership_octets fields_of carried_of pdu_of departure missing event_of
event_within t event.Nothing = lit≤ tt
event_within t (event.Nak r first last outbound) = lit≤ tt
event_within t (event.Leaving reason r) = lit≤ tt

pub join_reply_within : (owner : Cid) (j : Join) (n : ℕ) (x : Decision) → length (join_reply_of owner j n x) ≤ 64
unfolding octets cid_octets membership_octets fields_of carried_of pdu_of join_refuse_of acceptance welcome_of join_reply_of
join_reply_within owner j n (decision.Refuse reason) = lit≤ tt
join_reply_within owner j n (decision.Again r kept) = lit≤ tt
join_reply_within owner j n (decision.Make p) = lit≤ tt
