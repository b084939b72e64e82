-- How long a message's fields and its PDU are, and that the one table of data lengths says so: it has a row exactly for the messages with
-- a written form. Assumes nothing.
use Prim.Native.Nat.{ℕ, ◌+◌, ◌<◌, ◌≤◌}
use native.Mathlib.Omega.{arith}
use mathlib.Core.Path.{◌≡◌, refl, sym, ap, ◌∙◌}
use mathlib.Core.Bool.{Bool, true, false, cond}
use mathlib.Core.List.{List, append-nil}
use lib.ListN.{length, take, length-append}
use lib.Seq.{length-take-le, take-length}
use lib.Dec.{ltb, lit<}
use Rattle.std.specs.Prelude.{Some, None}
use Rattle.std.proofs.lemmas.Option.{none-some}
use Rattle.octets.specs.Octets.{octets}
use Rattle.message.specs.Lengths.{length_of, look, join}
use Rattle.message.specs.declared.Address.{Address}
use Rattle.message.specs.declared.Address.TheVariants as address
use Rattle.counter.specs.declared.Reliable.{Reliable}
use Rattle.message.specs.declared.Cid.{Cid}
use Rattle.message.specs.declared.Endpoint.{Endpoint}
use Rattle.message.specs.declared.Join.{Join}
use Rattle.message.specs.declared.Membership.{Membership}
use Rattle.message.specs.declared.Parameters.{Parameters}
use Rattle.message.specs.declared.Wrapper.{Wrapper}
use Rattle.message.specs.declared.Message.{Message}
use Rattle.message.specs.declared.Message.TheVariants as message
use Rattle.writing.specs.Fields.{cid_octets, membership_octets, wrapper_octets, parameters_octets, address_octets, join_octets, fields_of}
use Rattle.writing.specs.Writing.{vector_of, type_of, address_of, has_form, carried_of, contents_of, pdu_of}

-- ---- fields

pub null_length : (p : Parameters) → length (address_octets (address.Null p)) ≡ 10
unfolding octets parameters_octets address_octets
null_length p = refl

pub ipv4_length : (e : Endpoint) (p : Parameters) → length (address_octets (address.Ipv4 e p)) ≡ 16
unfolding octets parameters_octets address_octets
ipv4_length e p = refl

pub ruleset address_lengths = (null_length, ipv4_length)

-- a Join's fixed fields are 30 octets
pub join_length : (j : Join) → length (join_octets j) ≡ 30 + length (address_octets j.address)
unfolding octets cid_octets join_octets
join_length j = omega (arith, ap length (append-nil (address_octets j.address)))

pub wrapper_length : (w : Wrapper) → length (wrapper_octets w) ≡ 20
unfolding octets wrapper_octets
wrapper_length w = refl

pub cid_length : (c : Cid) → length (cid_octets c) ≡ 16
unfolding octets cid_octets
cid_length c = refl

pub refuse_length : (m : Membership) (reason : ℕ) → length (fields_of (message.JoinRefuse m reason)) ≡ 25
unfolding octets cid_octets membership_octets fields_of
refuse_length m reason = refl

pub accept_length : (m : Membership) (reciprocal : ℕ) → length (fields_of (message.JoinAccept m reciprocal)) ≡ 26
unfolding octets cid_octets membership_octets fields_of
accept_length m reciprocal = refl

pub leaving_length : (m : Membership) (reason : ℕ) → length (fields_of (message.Leaving m reason)) ≡ 25
unfolding octets cid_octets membership_octets fields_of
leaving_length m reason = refl

pub ack_length : (r : Reliable) → length (fields_of (message.Ack r)) ≡ 4
unfolding octets fields_of
ack_length r = refl

pub nak_length : (m : Membership) (first last : Reliable) → length (fields_of (message.Nak m first last)) ≡ 32
unfolding octets cid_octets membership_octets fields_of
nak_length m first last = refl

pub ruleset fields_lengths = (wrapper_length, cid_length, refuse_length, accept_length, leaving_length, ack_length, nak_length)

-- ---- the table

join_listed : (a : Address) → length_of join (type_of a) ≡ cond (ltb (type_of a) 2) (Some (30 + length (address_octets a))) None
unfolding octets parameters_octets address_octets length_of look
join_listed (address.Null p) = refl
join_listed (address.Ipv4 e p) = refl
join_listed (address.Other t) = refl

-- it has the length of the fields of a message with a written form, and no row for any other; and no message is without fields
pub listed : (m : Message)
    → (length_of (vector_of m) (address_of m) ≡ cond (has_form m) (Some (length (fields_of m))) None) × (0 < length (fields_of m))
unfolding octets cid_octets membership_octets wrapper_octets fields_of vector_of address_of has_form length_of look
listed (message.ReliableWrapper w) = (refl, lit< tt)
listed (message.UnreliableWrapper w) = (refl, lit< tt)
listed (message.Join j) = (rw (join_length j) (join_listed j.address), omega (arith, join_length j))
listed (message.JoinRefuse m reason) = (refl, lit< tt)
listed (message.JoinAccept m reciprocal) = (refl, lit< tt)
listed (message.Leaving m reason) = (refl, lit< tt)
listed (message.Ack r) = (refl, lit< tt)
listed (message.Nak m first last) = (refl, lit< tt)
listed (message.GetSessions cid) = (refl, lit< tt)

-- so a message with a row has a form, and its fields are as long as the row says
pub some_listed : (m : Message) (len : ℕ) → length_of (vector_of m) (address_of m) ≡ Some len → (has_form m ≡ true) × (len ≡ length (fields_of m))
some_listed m len e = by (has_form m) (sym (listed m).0 ∙ e)
  where
    by : (b : Bool) → cond b (Some (length (fields_of m))) None ≡ Some len → (b ≡ true) × (len ≡ length (fields_of m))
    by true q = (refl, cc)
    by false q = absurd (none-some _ q)

pub none_listed : (m : Message) → length_of (vector_of m) (address_of m) ≡ None → has_form m ≡ false
none_listed m e = by (has_form m) (sym (listed m).0 ∙ e)
  where
    by : (b : Bool) → cond b (Some (length (fields_of m))) None ≡ None → b ≡ false
    by true q = absurd (none-some _ (sym q))
    by false q = refl

-- ---- the PDU

pub carried_within : (m : Message) (n more : ℕ) → more ≡ carried_of m n → more ≤ n
unfolding carried_of
carried_within (message.ReliableWrapper w) n more e = omega arith
carried_within (message.UnreliableWrapper w) n more e = omega arith
carried_within (message.Join j) n more e = omega arith
carried_within (message.JoinRefuse m reason) n more e = omega arith
carried_within (message.JoinAccept m reciprocal) n more e = omega arith
carried_within (message.Leaving m reason) n more e = omega arith
carried_within (message.Ack r) n more e = omega arith
carried_within (message.Nak m first last) n more e = omega arith
carried_within (message.GetSessions cid) n more e = omega arith

pub wrapper_contents : (m : Message) (c : List ℕ) → carried_of m (length c) ≡ length c → c ≡ contents_of m c
wrapper_contents m c e = sym (ap (λ (n : ℕ). take n c) e ∙ take-length c)

pub contents_length : (m : Message) (c : List ℕ) → length (contents_of m c) ≡ carried_of m (length c)
contents_length m c = length-take-le (carried_of m (length c)) c (carried_within m (length c) (carried_of m (length c)) refl)

pub pdu_length : (m : Message) (c : List ℕ) → length (pdu_of m c) ≡ 3 + length (fields_of m) + carried_of m (length c)
unfolding octets pdu_of
pdu_length m c = omega (arith, length-append (fields_of m) (contents_of m c), contents_length m c)
