-- Reading a message (01, "Refusal numbers" and "Blocks and layouts"): v is its vector and d its data.
use Rattle.std.specs.Prelude.{ℕ, Bool, cond, ◌&&◌, ◌||◌, List, length, get_or, drop, ltb, leb, eqb, Result, Ok, Err}
use Rattle.refusal.specs.declared.Refusal.{Refusal}
use Rattle.refusal.specs.declared.Refusal.TheVariants as refusal
use Rattle.octets.specs.Octets.{number_at}
use Rattle.message.specs.Lengths.{length_of, exactly, or_more, reliable_wrapper, unreliable_wrapper, join, join_refuse, join_accept, leaving, ack, nak, null, ipv4}
use Rattle.message.specs.Layouts.{reliable, cid_at, membership_of, wrapper_of, join_of}
use Rattle.message.specs.declared.Message.{Message}
use Rattle.message.specs.declared.Message.TheVariants as message

-- a Join: with a null or an IPv4 address it has that row's length; with another type 31 octets or more
unfoldable pub readable_join : List ℕ → Bool
readable_join d = leb 31 (length d) && (ltb ipv4 (get_or d 30 0) || exactly (length_of join (get_or d 30 0)) (length d))

-- a wrapper has the length of its row or more, and any other message exactly that of its row; a vector with no row is none of ours
unfoldable pub readable : ℕ → List ℕ → Bool
readable v d =
    cond (eqb v join) (readable_join d)
    (cond (eqb v reliable_wrapper || eqb v unreliable_wrapper) (or_more (length_of v null) (length d))
    (exactly (length_of v null) (length d)))

-- the messages of fixed length, by vector; the last of them is Get Sessions
unfoldable pub fixed_of : ℕ → List ℕ → Message
fixed_of v d =
    cond (eqb v join_refuse) (message.JoinRefuse (membership_of d) (get_or d 24 0))
    (cond (eqb v join_accept) (message.JoinAccept (membership_of d) (number_at d 24 2))
    (cond (eqb v leaving) (message.Leaving (membership_of d) (get_or d 24 0))
    (cond (eqb v ack) (message.Ack (reliable (number_at d 0 4)))
    (cond (eqb v nak) (message.Nak (membership_of d) (reliable (number_at d 24 4)) (reliable (number_at d 28 4)))
    (message.GetSessions (cid_at d 0))))))

-- the message that readable data is
unfoldable pub message_of : ℕ → List ℕ → Message
message_of v d =
    cond (eqb v reliable_wrapper) (message.ReliableWrapper (wrapper_of d))
    (cond (eqb v unreliable_wrapper) (message.UnreliableWrapper (wrapper_of d))
    (cond (eqb v join) (message.Join (join_of d))
    (fixed_of v d)))

-- reading a message checks 4 alone: what is not readable is refused
unfoldable pub read_message : ℕ → List ℕ → Result Message Refusal
read_message v d = cond (readable v d) (Ok (message_of v d)) (Err refusal.NoForm)

-- a wrapper's contents: its data past its own 20 octets
abbrev pub contents : List ℕ → List ℕ
contents d = drop 20 d
