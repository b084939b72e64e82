-- A message of the machine: each field is a number of the width that its layout gives it (01, "Blocks and layouts"). (Definitions are over all numbers, so theorems that read octets back say
-- this of the message; for a message that code holds it is so by its types.)
use Rattle.std.specs.Prelude.{ℕ, ◌^◌, ◌<◌}
use Rattle.message.specs.declared.Cid.{Cid}
use Rattle.message.specs.declared.Membership.{Membership}
use Rattle.message.specs.declared.Parameters.{Parameters}
use Rattle.message.specs.declared.Endpoint.{Endpoint}
use Rattle.message.specs.declared.Address.{Address}
use Rattle.message.specs.declared.Address.TheVariants as address
use Rattle.message.specs.declared.Join.{Join}
use Rattle.message.specs.declared.Wrapper.{Wrapper}
use Rattle.message.specs.declared.Message.{Message}
use Rattle.message.specs.declared.Message.TheVariants as message

-- x fits in n octets
abbrev pub Octets : ℕ → ℕ → Type 0
Octets n x = x < 256 ^ n

pub record FitCid (c : Cid) : Type 0 where
  pub high : Octets 8 c.high
  pub low : Octets 8 c.low

pub record FitMembership (m : Membership) : Type 0 where
  pub leader : FitCid m.leader
  pub channel : Octets 2 m.channel
  pub mid : Octets 2 m.mid
  pub reliable : Octets 4 m.reliable.0

pub record FitWrapper (w : Wrapper) : Type 0 where
  pub channel : Octets 2 w.channel
  pub total : Octets 4 w.total.0
  pub reliable : Octets 4 w.reliable.0
  pub oldest : Octets 4 w.oldest.0
  pub first : Octets 2 w.first
  pub last : Octets 2 w.last
  pub threshold : Octets 2 w.threshold

pub record FitParameters (p : Parameters) : Type 0 where
  pub expiry : Octets 1 p.expiry
  pub flags : Octets 1 p.flags
  pub holdoff : Octets 2 p.holdoff
  pub modulus : Octets 2 p.modulus
  pub maxwait : Octets 2 p.maxwait
  pub adhoc : Octets 1 p.adhoc

pub record FitEndpoint (e : Endpoint) : Type 0 where
  pub port : Octets 2 e.port
  pub host : Octets 4 e.host

abbrev pub FitAddress : Address → Type 0
FitAddress (address.Null p) = FitParameters p
FitAddress (address.Ipv4 e p) = FitEndpoint e × FitParameters p
FitAddress (address.Other t) = Octets 1 t

pub record FitJoin (j : Join) : Type 0 where
  pub cid : FitCid j.cid
  pub mid : Octets 2 j.mid
  pub channel : Octets 2 j.channel
  pub reciprocal : Octets 2 j.reciprocal
  pub total : Octets 4 j.total.0
  pub reliable : Octets 4 j.reliable.0
  pub address : FitAddress j.address

abbrev pub Fits : Message → Type 0
Fits (message.ReliableWrapper w) = FitWrapper w
Fits (message.UnreliableWrapper w) = FitWrapper w
Fits (message.Join j) = FitJoin j
Fits (message.JoinRefuse m reason) = FitMembership m × Octets 1 reason
Fits (message.JoinAccept m reciprocal) = FitMembership m × Octets 2 reciprocal
Fits (message.Leaving m reason) = FitMembership m × Octets 1 reason
Fits (message.Ack r) = Octets 4 r.0
Fits (message.Nak m first last) = FitMembership m × Octets 4 first.0 × Octets 4 last.0
Fits (message.GetSessions c) = FitCid c
