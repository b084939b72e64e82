-- A message as a struct of numbers for C (01, "Room": "with numbers and octets only"), and back. Which field holds what, message by message, is `plain_of`.
use Rattle.std.specs.Prelude.{ℕ, cond, eqb, Option, Some, None}
use Rattle.message.specs.Lengths.{reliable_wrapper, unreliable_wrapper, join, join_refuse, join_accept, leaving, ack, nak, get_sessions, null, ipv4}
use Rattle.message.specs.Layouts.{total, reliable}
use Rattle.message.specs.declared.Cid.{Cid}
use Rattle.message.specs.declared.Membership.{Membership}
use Rattle.message.specs.declared.Parameters.{Parameters}
use Rattle.message.specs.declared.Endpoint.{Endpoint}
use Rattle.message.specs.declared.Address.{Address}
use Rattle.message.specs.declared.Address.TheVariants as address
use Rattle.message.specs.declared.Join.{Join}
use Rattle.message.specs.declared.Wrapper.{Wrapper}
use Rattle.message.specs.declared.Message.{Message}
use Rattle.message.specs.declared.Message.TheVariants as message
use Rattle.plain.specs.declared.Subject.{Subject}
use Rattle.plain.specs.declared.Order.{Order}
use Rattle.plain.specs.declared.Missed.{Missed}
use Rattle.plain.specs.declared.Destination.{Destination}
use Rattle.plain.specs.declared.Plain.{Plain}

-- ---- parts, and what stands where a message has none

abbrev pub nobody : Cid
nobody = record { high = 0; low = 0 }

abbrev pub no_order : Order
no_order = record { total = 0; oldest = 0; first = 0; last = 0; threshold = 0 }

abbrev pub no_missed : Missed
no_missed = record { first = 0; last = 0 }

abbrev pub no_destination : Destination
no_destination = record { host = 0; port = 0; kind = 0 }

abbrev pub no_parameters : Parameters
no_parameters = record { expiry = 0; flags = 0; holdoff = 0; modulus = 0; maxwait = 0; adhoc = 0 }

abbrev pub subject : Cid → ℕ → ℕ → ℕ → Subject
subject cid channel mid reliable = record { cid = cid; reliable = reliable; channel = channel; mid = mid }

-- the subject of Join Accept, Join Refuse, Leaving and NAK
abbrev pub member_subject : Membership → Subject
member_subject m = subject m.leader m.channel m.mid m.reliable.0

abbrev pub plain : ℕ → ℕ → ℕ → Missed → Subject → Order → Destination → Parameters → Plain
plain vector reason reciprocal missed subject order destination parameters =
    record {
      vector = vector;
      reason = reason;
      reciprocal = reciprocal;
      missed = missed;
      subject = subject;
      order = order;
      destination = destination;
      parameters = parameters;
    }

-- a message with no destination
abbrev pub plain_with : ℕ → ℕ → ℕ → Missed → Subject → Order → Plain
plain_with vector reason reciprocal missed subject order = plain vector reason reciprocal missed subject order no_destination no_parameters

-- no message: every number is 0
abbrev pub no_message : Plain
no_message = plain_with 0 0 0 no_missed (subject nobody 0 0 0) no_order

-- ---- from a message

abbrev pub wrapper_plain : ℕ → Wrapper → Plain
wrapper_plain vector w =
    plain_with vector 0 0 no_missed (subject nobody w.channel 0 w.reliable.0)
    (record { total = w.total.0; oldest = w.oldest.0; first = w.first; last = w.last; threshold = w.threshold })

abbrev pub ipv4_at : Endpoint → Destination
ipv4_at e = record { host = e.host; port = e.port; kind = ipv4 }

abbrev pub other_at : ℕ → Destination
other_at t = record { host = 0; port = 0; kind = t }

abbrev pub destination_of : Address → Destination
destination_of (address.Null p) = no_destination
destination_of (address.Ipv4 e p) = ipv4_at e
destination_of (address.Other t) = other_at t

abbrev pub parameters_of : Address → Parameters
parameters_of (address.Null p) = p
parameters_of (address.Ipv4 e p) = p
parameters_of (address.Other t) = no_parameters

unfoldable pub join_plain : Join → Plain
join_plain j =
    plain join 0 j.reciprocal no_missed (subject j.cid j.channel j.mid j.reliable.0)
    (record { total = j.total.0; oldest = 0; first = 0; last = 0; threshold = 0 })
    (destination_of j.address) (parameters_of j.address)

unfoldable pub plain_of : Message → Plain
plain_of (message.ReliableWrapper w) = wrapper_plain reliable_wrapper w
plain_of (message.UnreliableWrapper w) = wrapper_plain unreliable_wrapper w
plain_of (message.Join j) = join_plain j
plain_of (message.JoinRefuse m reason) = plain_with join_refuse reason 0 no_missed (member_subject m) no_order
plain_of (message.JoinAccept m reciprocal) = plain_with join_accept 0 reciprocal no_missed (member_subject m) no_order
plain_of (message.Leaving m reason) = plain_with leaving reason 0 no_missed (member_subject m) no_order
plain_of (message.Ack r) = plain_with ack 0 0 no_missed (subject nobody 0 0 r.0) no_order
plain_of (message.Nak m first last) =
    plain_with nak 0 0 (record { first = first.0; last = last.0 }) (member_subject m) no_order
plain_of (message.GetSessions cid) = plain_with get_sessions 0 0 no_missed (subject cid 0 0 0) no_order

-- ---- to a message

unfoldable pub address_of : Destination → Parameters → Address
address_of d p =
    cond (eqb d.kind null) (address.Null p)
    (cond (eqb d.kind ipv4) (address.Ipv4 (record { port = d.port; host = d.host }) p)
    (address.Other d.kind))

abbrev pub member_of : Subject → Membership
member_of s = record { leader = s.cid; channel = s.channel; mid = s.mid; reliable = reliable s.reliable }

abbrev pub wrapper_of : Subject → Order → Wrapper
wrapper_of s o =
    record {
      channel = s.channel;
      total = total o.total;
      reliable = reliable s.reliable;
      oldest = reliable o.oldest;
      first = o.first;
      last = o.last;
      threshold = o.threshold;
    }

abbrev pub join_of : Plain → Join
join_of p =
    record {
      cid = p.subject.cid;
      mid = p.subject.mid;
      channel = p.subject.channel;
      reciprocal = p.reciprocal;
      total = total p.order.total;
      reliable = reliable p.subject.reliable;
      address = address_of p.destination p.parameters;
    }

-- the message of these numbers, if their vector is one of the nine; fields that its kind does not have are not looked at
unfoldable pub typed_of : Plain → Option Message
typed_of p =
    cond (eqb p.vector reliable_wrapper) (Some (message.ReliableWrapper (wrapper_of p.subject p.order)))
    (cond (eqb p.vector unreliable_wrapper) (Some (message.UnreliableWrapper (wrapper_of p.subject p.order)))
    (cond (eqb p.vector join) (Some (message.Join (join_of p)))
    (cond (eqb p.vector join_refuse) (Some (message.JoinRefuse (member_of p.subject) p.reason))
    (cond (eqb p.vector join_accept) (Some (message.JoinAccept (member_of p.subject) p.reciprocal))
    (cond (eqb p.vector leaving) (Some (message.Leaving (member_of p.subject) p.reason))
    (cond (eqb p.vector ack) (Some (message.Ack (reliable p.subject.reliable)))
    (cond (eqb p.vector nak)
    (Some (message.Nak (member_of p.subject) (reliable p.missed.first) (reliable p.missed.last)))
    (cond (eqb p.vector get_sessions) (Some (message.GetSessions p.subject.cid))
    None))))))))
