-- Demand 2 of the order, for messages as octets: what is written is read back as the same message (`round_trip`), and octets that are read as
-- a message with a written form are those to which that message is written (`written_again`). Both are over the definitions by which the
-- calls' contracts say what they do: `wrote` and `room_after` of writing, `read_block` and `read_message` of reading. The first assumes of the message that its numbers have the width of their fields, that it
-- has a written form, and that contents and room are of sizes that writing takes; the second that the data are octets and can be read.
use mathlib.Core.Path.{◌≡◌, refl}
use mathlib.Core.Bool.{true}
use mathlib.Core.List.{List, [], ◌∷◌, ◌++◌}
use Prim.Native.Nat.{ℕ, zero, suc, ◌^◌, ◌/◌, ◌≤◌}
use native.Mathlib.Nat.{mod-lt}
use lib.ListN.{length, get_or, drop}
use lib.Seq.{take-length}
use lib.Dec.{lit<, lit≤}
use Rattle.std.specs.Prelude.{Some, Ok}
use Rattle.octets.specs.Octets.{number, octets}
use Rattle.octets.specs.Octets.{Octets}
use Rattle.block.specs.Pdu.{head_size, fields, size_at, lacks_flag, left_over, malformed, found_at, pdu_at}
use Rattle.block.specs.Block.{parse_from, parse, asked, read_block}
use Rattle.message.specs.Lengths.{look, length_of, most_contents}
use Rattle.message.specs.Reading.{readable, fixed_of, message_of, read_message}
use Rattle.message.specs.declared.Message.{Message}
use Rattle.message.specs.declared.Message.TheVariants as message
use Rattle.writing.specs.Fields.{wrapper_octets, fields_of}
use Rattle.writing.specs.Fits.{Fits}
use Rattle.writing.specs.Writing.{vector_of, address_of, has_form, carried_of, contents_of, pdu_of}
use Rattle.demands.specs.ReadBack.{IsWrapper, ReadBack, WrittenAgain, reliable, unreliable}
use Rattle.demands.proofs.Lemmas.Back.{message_back, length_behind_head, alone, not_refused, in_room}
use Rattle.demands.proofs.Lemmas.Again.{again}

-- ---- what is written is read back

-- in their data the contents stand behind their own 20 octets
contents_back : {m : Message} (c : List ℕ) → IsWrapper m → drop 20 (fields_of m ++ contents_of m c) ≡ c
unfolding fields_of carried_of wrapper_octets octets
contents_back c (reliable w) = take-length c
contents_back c (unreliable w) = take-length c

-- So it is for every message each of whose fields is a number of its width (as is every message that code holds) and which has a written
-- form (that is, which is no Join with another address than null or IPv4), if the contents that it carries are at most 1,454 octets and the
-- room is not shorter than its PDU.
pub round_trip : (m : Message) (c r : List ℕ)
    → Fits m
    → has_form m ≡ true
    → length (contents_of m c) ≤ most_contents
    → length (pdu_of m c) ≤ length r
    → ReadBack m c r
unfolding pdu_of
round_trip m c r fits form carried room =
    let there = in_room m c carried r form room in
    let one = alone m c carried in
    record {
      wrote = not_refused m c carried r form room;
      first = rw (there, length_behind_head m c) one.message;
      only = rw there one.no_other;
      message = rw (there, one.vector_there, one.body_there) (message_back m c fits form);
      contents = λ w. rw (there, one.body_there) (contents_back c w);
    }

-- ---- what is read is written again

-- So it is for every vector and all octets that are read as a message which has a written form. (A wrapper with contents of more than 1,454
-- octets is read too, and this holds of it, but writing it is refused.)
pub written_again : (v : ℕ) (d : List ℕ) (m : Message) → Octets d → read_message v d ≡ Ok m → has_form m ≡ true → WrittenAgain v d m
unfolding pdu_of
written_again v d m o e form =
    let same = again d o v m e form in
    record {
      vector = same.0;
      body = same.1;
      whole = rw (same.0, same.1);
    }

-- ---- an example of both, P 7 of 01: 70 07 0E 00 00 00 29 is the ACK of 41

abbrev pub ack : Message
ack = message.Ack (record { 0 = 41 })

abbrev pub ack_octets : List ℕ
ack_octets = 112 ∷ 7 ∷ 14 ∷ 0 ∷ 0 ∷ 0 ∷ 41 ∷ []

pub ack_written : pdu_of ack [] ≡ ack_octets
unfolding pdu_of vector_of fields_of carried_of octets
ack_written = refl

pub ack_found : read_block ack_octets 0 ≡ Ok (Some (record { vector = 2; place = 3; len = 4 }))
unfolding read_block parse parse_from asked pdu_at malformed lacks_flag left_over found_at fields head_size size_at number
ack_found = refl

pub ack_read : read_message (get_or ack_octets 2 0) (drop 3 ack_octets) ≡ Ok ack
unfolding read_message readable length_of look message_of fixed_of number
ack_read = refl

pub ack_back : (r : List ℕ) → 7 ≤ length r → ReadBack ack [] r
unfolding pdu_of address_of has_form fields_of carried_of octets
ack_back r room = round_trip ack [] r (lit< tt) refl (lit≤ tt) room

octets_below : (n x : ℕ) → Octets (octets n x)
unfolding Octets octets
octets_below zero x i = lit< tt
octets_below (suc n) x zero = mod-lt (x / 256 ^ n) (lit< tt)
octets_below (suc n) x (suc i) = octets_below n x i

pub ack_again : WrittenAgain 14 (drop 3 ack_octets) ack
unfolding address_of has_form octets
ack_again = written_again 14 (drop 3 ack_octets) ack (octets_below 4 41) ack_read refl
