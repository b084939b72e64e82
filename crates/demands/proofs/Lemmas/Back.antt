-- A message's octets are read as that message, layout by layout and then for each of the nine messages, and they stand in the room that they
-- were written into. Assumes nothing.
use mathlib.Core.Path.{◌≡◌}
use mathlib.Core.Bool.{true, false≢true}
use mathlib.Core.List.{List, [], ◌++◌}
use Prim.Native.Nat.{ℕ, ◌-◌, ◌/◌, ◌%◌, ◌<◌, ◌≤◌, zero-le}
use native.Mathlib.Nat.{div-one, mod-eq_of_lt}
use native.Mathlib.Omega.{arith}
use lib.ListN.{length, take, drop, length-append}
use lib.Seq.{get_or-append_seam, get_or-append-add, drop-append-add}
use lib.Dec.{lit<, lit≤, leb}
use borrow.Author.Tests.{le-ltb, le-leb}
use Rattle.std.specs.Prelude.{Ok}
use Rattle.octets.specs.Octets.{octets}
use Rattle.octets.proofs.Numbers.{number_octets}
use Rattle.octets.proofs.Writes.{part_splice}
use Rattle.block.specs.Written.{Alone}
use Rattle.block.proofs.Together.{one_written}
use Rattle.message.specs.Lengths.{join, look, length_of, most_contents}
use Rattle.message.specs.Layouts.{cid_at, membership_of, wrapper_of, parameters_at, endpoint_at, address_of, join_of}
use Rattle.message.specs.Reading.{readable_join, readable, fixed_of, message_of, read_message}
use Rattle.message.specs.declared.Cid.{Cid}
use Rattle.message.specs.declared.Membership.{Membership}
use Rattle.message.specs.declared.Parameters.{Parameters}
use Rattle.message.specs.declared.Endpoint.{Endpoint}
use Rattle.message.specs.declared.Address.{Address}
use Rattle.message.specs.declared.Address.TheVariants as address
use Rattle.message.specs.declared.Join.{Join}
use Rattle.message.specs.declared.Wrapper.{Wrapper}
use Rattle.message.specs.declared.Message.{Message}
use Rattle.message.specs.declared.Message.TheVariants as message
use Rattle.writing.specs.Fields.{cid_octets, membership_octets, wrapper_octets, parameters_octets, address_octets, join_octets, fields_of}
use Rattle.writing.specs.Fits.{FitCid, FitMembership, FitWrapper, FitParameters, FitEndpoint, FitAddress, FitJoin, Fits}
use Rattle.writing.specs.Writing.{vector_of, address_of as addressType, has_form, carried_of, contents_of, pdu_of, wrote, room_after}

-- ---- the layouts: each with any octets behind it, and the parameters, which end a Join, with any before them

cid_back : (c : Cid) (rest : List ℕ) → FitCid c → cid_at (cid_octets c ++ rest) 0 ≡ c
unfolding cid_at cid_octets octets
cid_back c rest f = rw (number_octets 8 c.high f.high, number_octets 8 c.low f.low)

membership_back : (m : Membership) (rest : List ℕ) → FitMembership m → membership_of (membership_octets m ++ rest) ≡ m
unfolding membership_of membership_octets cid_octets octets
membership_back m rest f =
    rw (
      cid_back m.leader (drop 16 (membership_octets m) ++ rest) f.leader,
      number_octets 2 m.channel f.channel,
      number_octets 2 m.mid f.mid,
      number_octets 4 m.reliable.0 f.reliable,
    )

wrapper_back : (w : Wrapper) (rest : List ℕ) → FitWrapper w → wrapper_of (wrapper_octets w ++ rest) ≡ w
unfolding wrapper_of wrapper_octets octets
wrapper_back w rest f =
    rw (
      number_octets 2 w.channel f.channel,
      number_octets 4 w.total.0 f.total,
      number_octets 4 w.reliable.0 f.reliable,
      number_octets 4 w.oldest.0 f.oldest,
      number_octets 2 w.first f.first,
      number_octets 2 w.last f.last,
      number_octets 2 w.threshold f.threshold,
    )

wrapper_long : (w : Wrapper) (rest : List ℕ) → leb 20 (length (wrapper_octets w ++ rest)) ≡ true
unfolding wrapper_octets octets
wrapper_long w rest = le-leb 20 (length (wrapper_octets w ++ rest)) (omega arith)

octet_back : (x : ℕ) → x < 256 → x / 1 % 256 ≡ x
octet_back x h = rw div-one (mod-eq_of_lt h)

parameters_back : (before : List ℕ) (p : Parameters) → FitParameters p → parameters_at (before ++ parameters_octets p) (length before) ≡ p
unfolding parameters_at parameters_octets octets
parameters_back before p f =
    simp (
      get_or-append_seam,
      get_or-append-add,
      drop-append-add,
      octet_back p.expiry f.expiry,
      octet_back p.flags f.flags,
      number_octets 2 p.holdoff f.holdoff,
      number_octets 2 p.modulus f.modulus,
      number_octets 2 p.maxwait f.maxwait,
      octet_back p.adhoc f.adhoc,
    )

-- ---- a Join

-- the Join j with the address a. With its own address j is itself, so the laws below go by cases on an address that is a variable
abbrev addressed : Join → Address → Join
addressed j a =
    record {
      cid = j.cid;
      mid = j.mid;
      channel = j.channel;
      reciprocal = j.reciprocal;
      total = j.total;
      reliable = j.reliable;
      address = a;
    }

null_back : (j : Join) (p : Parameters) → FitParameters p → address_of (join_octets (addressed j (address.Null p))) ≡ address.Null p
unfolding address_of address_octets join_octets cid_octets parameters_octets octets
null_back j p f = rw (parameters_back (take 31 (join_octets (addressed j (address.Null p)))) p f)

ipv4_back : (j : Join) (e : Endpoint) (p : Parameters) → FitEndpoint e → FitParameters p
    → address_of (join_octets (addressed j (address.Ipv4 e p))) ≡ address.Ipv4 e p
unfolding address_of address_octets endpoint_at join_octets cid_octets parameters_octets octets
ipv4_back j e p g f =
    rw (
      parameters_back (take 37 (join_octets (addressed j (address.Ipv4 e p)))) p f,
      number_octets 2 e.port g.port,
      number_octets 4 e.host g.host,
    )

join_back : (j : Join) (a : Address) → FitJoin j → address_of (join_octets (addressed j a)) ≡ a
    → join_of (join_octets (addressed j a)) ≡ addressed j a
unfolding join_of join_octets cid_octets octets
join_back j a f e =
    rw (
      e,
      cid_back j.cid (drop 16 (join_octets (addressed j a))) f.cid,
      number_octets 2 j.mid f.mid,
      number_octets 2 j.channel f.channel,
      number_octets 2 j.reciprocal f.reciprocal,
      number_octets 4 j.total.0 f.total,
      number_octets 4 j.reliable.0 f.reliable,
    )

join_read : (j : Join) (a : Address) → FitJoin j → FitAddress a → has_form (message.Join (addressed j a)) ≡ true
    → read_message join (join_octets (addressed j a) ++ []) ≡ Ok (message.Join (addressed j a))
unfolding read_message readable readable_join length_of look message_of join_octets address_octets cid_octets parameters_octets octets has_form addressType
join_read j (address.Null p) f g h = rw (join_back j (address.Null p) f (null_back j p g))
join_read j (address.Ipv4 e p) f g h = rw (join_back j (address.Ipv4 e p) f (ipv4_back j e p g.0 g.1))
join_read j (address.Other t) f g h = absurd (false≢true h)

-- ---- the nine messages

-- the data to which a message and its contents are written, read under the message's vector
pub message_back : (m : Message) (c : List ℕ) → Fits m → has_form m ≡ true
    → read_message (vector_of m) (fields_of m ++ contents_of m c) ≡ Ok m
unfolding read_message readable length_of look message_of fixed_of vector_of fields_of carried_of membership_octets cid_octets octets
message_back (message.ReliableWrapper w) c f h = rw (wrapper_long w (take (length c) c), wrapper_back w (take (length c) c) f)
message_back (message.UnreliableWrapper w) c f h = rw (wrapper_long w (take (length c) c), wrapper_back w (take (length c) c) f)
message_back (message.Join j) c f h = join_read j j.address f f.address h
message_back (message.JoinRefuse m reason) c f h = rw (membership_back m (octets 1 reason) f.0, octet_back reason f.1)
message_back (message.JoinAccept m reciprocal) c f h =
    rw (membership_back m (octets 2 reciprocal) f.0, number_octets 2 reciprocal f.1)
message_back (message.Leaving m reason) c f h = rw (membership_back m (octets 1 reason) f.0, octet_back reason f.1)
message_back (message.Ack r) c f h = rw (number_octets 4 r.0 f)
message_back (message.Nak m first last) c f h =
    rw (
      membership_back m (octets 4 first.0 ++ octets 4 last.0) f.0,
      number_octets 4 first.0 f.1,
      number_octets 4 last.0 f.2,
    )
message_back (message.GetSessions cid) c f h = rw (cid_back cid [] f)

-- ---- the PDU and the room

join_short : (j : Join) (a : Address) → length (join_octets (addressed j a)) ≤ 46
unfolding join_octets address_octets cid_octets parameters_octets octets
join_short j (address.Null p) = lit≤ tt
join_short j (address.Ipv4 e p) = lit≤ tt
join_short j (address.Other t) = lit≤ tt

-- the vector is an octet, and the fields leave room for the contents in the twelve bits of a PDU's length
pub short : (m : Message) → (vector_of m < 256) × (length (fields_of m) ≤ 46)
unfolding vector_of fields_of wrapper_octets membership_octets cid_octets octets
short (message.ReliableWrapper w) = (lit< tt, lit≤ tt)
short (message.UnreliableWrapper w) = (lit< tt, lit≤ tt)
short (message.Join j) = (lit< tt, join_short j j.address)
short (message.JoinRefuse m reason) = (lit< tt, lit≤ tt)
short (message.JoinAccept m reciprocal) = (lit< tt, lit≤ tt)
short (message.Leaving m reason) = (lit< tt, lit≤ tt)
short (message.Ack r) = (lit< tt, lit≤ tt)
short (message.Nak m first last) = (lit< tt, lit≤ tt)
short (message.GetSessions cid) = (lit< tt, lit≤ tt)

module _ (m : Message) (c : List ℕ) where
  -- all of the PDU but its head of three octets
  pub length_behind_head : length (pdu_of m c) - 3 ≡ length (fields_of m ++ contents_of m c)
  unfolding pdu_of octets
  length_behind_head = omega arith

  module _ (contents : length (contents_of m c) ≤ most_contents) where
    pub alone : Alone (vector_of m) (fields_of m ++ contents_of m c)
    alone =
        one_written (vector_of m) (fields_of m ++ contents_of m c) (short m).0
        (omega (arith, (short m).1, length-append (fields_of m) (contents_of m c)))

    module _ (r : List ℕ) (form : has_form m ≡ true) (room : length (pdu_of m c) ≤ length r) where
      pub not_refused : wrote m c r ≡ Ok (length (pdu_of m c))
      unfolding wrote
      not_refused = rw (form, le-ltb (length r) (length (pdu_of m c)) room, le-ltb most_contents (length (contents_of m c)) contents)

      -- what stands at the room's front
      pub in_room : take (length (pdu_of m c)) (room_after m c r) ≡ pdu_of m c
      unfolding room_after
      in_room = rw not_refused (part_splice r 0 (pdu_of m c) zero-le)
