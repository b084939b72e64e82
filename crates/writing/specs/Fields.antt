-- The messages' fields as octets, in the order of their figures (000, figures 10 to 20, 22 and 26).
use Rattle.std.specs.Prelude.{ℕ, List, [], ◌∷◌}
use Rattle.octets.specs.Octets.{octets, joined}
use Rattle.message.specs.Lengths.{null, ipv4}
use Rattle.message.specs.declared.Cid.{Cid}
use Rattle.message.specs.declared.Membership.{Membership}
use Rattle.message.specs.declared.Parameters.{Parameters}
use Rattle.message.specs.declared.Address.{Address}
use Rattle.message.specs.declared.Address.TheVariants as address
use Rattle.message.specs.declared.Join.{Join}
use Rattle.message.specs.declared.Wrapper.{Wrapper}
use Rattle.message.specs.declared.Message.{Message}
use Rattle.message.specs.declared.Message.TheVariants as message

unfoldable pub cid_octets : Cid → List ℕ
cid_octets c = joined (octets 8 c.high ∷ octets 8 c.low ∷ [])

unfoldable pub membership_octets : Membership → List ℕ
membership_octets m =
    joined (cid_octets m.leader ∷ octets 2 m.channel ∷ octets 2 m.mid ∷ octets 4 m.reliable.0 ∷ [])

unfoldable pub wrapper_octets : Wrapper → List ℕ
wrapper_octets w =
    joined
    (octets 2 w.channel
    ∷ octets 4 w.total.0
    ∷ octets 4 w.reliable.0
    ∷ octets 4 w.oldest.0
    ∷ octets 2 w.first
    ∷ octets 2 w.last
    ∷ octets 2 w.threshold
    ∷ [])

unfoldable pub parameters_octets : Parameters → List ℕ
parameters_octets p =
    joined
    (octets 1 p.expiry
    ∷ octets 1 p.flags
    ∷ octets 2 p.holdoff
    ∷ octets 2 p.modulus
    ∷ octets 2 p.maxwait
    ∷ octets 1 p.adhoc
    ∷ [])

-- an address and what follows it; another type than null or IPv4 has no written form
unfoldable pub address_octets : Address → List ℕ
address_octets (address.Null p) = joined (octets 1 null ∷ parameters_octets p ∷ [])
address_octets (address.Ipv4 e p) = joined (octets 1 ipv4 ∷ octets 2 e.port ∷ octets 4 e.host ∷ parameters_octets p ∷ [])
address_octets (address.Other t) = []

unfoldable pub join_octets : Join → List ℕ
join_octets j =
    joined
    (cid_octets j.cid
    ∷ octets 2 j.mid
    ∷ octets 2 j.channel
    ∷ octets 2 j.reciprocal
    ∷ octets 4 j.total.0
    ∷ octets 4 j.reliable.0
    ∷ address_octets j.address
    ∷ [])

-- a message's data; of a wrapper, its own 20 octets
unfoldable pub fields_of : Message → List ℕ
fields_of (message.ReliableWrapper w) = wrapper_octets w
fields_of (message.UnreliableWrapper w) = wrapper_octets w
fields_of (message.Join j) = join_octets j
fields_of (message.JoinRefuse m reason) = joined (membership_octets m ∷ octets 1 reason ∷ [])
fields_of (message.JoinAccept m reciprocal) = joined (membership_octets m ∷ octets 2 reciprocal ∷ [])
fields_of (message.Leaving m reason) = joined (membership_octets m ∷ octets 1 reason ∷ [])
fields_of (message.Ack r) = octets 4 r.0
fields_of (message.Nak m first last) = joined (membership_octets m ∷ octets 4 first.0 ∷ octets 4 last.0 ∷ [])
fields_of (message.GetSessions c) = cid_octets c
