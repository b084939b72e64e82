-- The vectors of the nine messages and the one table of their data lengths (01, "Blocks and layouts").
use Rattle.std.specs.Prelude.{ℕ, Bool, false, ◌&&◌, List, [], ◌∷◌, eqb, leb, Option, Some, None, option_map}
use Rattle.std.specs.List.{find}
pub use Rattle.message.specs.declared.Row.{Row}

-- 000, Table 3, as far as 01 takes it
abbrev pub reliable_wrapper : ℕ
reliable_wrapper = 1

abbrev pub unreliable_wrapper : ℕ
unreliable_wrapper = 2

abbrev pub join : ℕ
join = 4

abbrev pub join_refuse : ℕ
join_refuse = 5

abbrev pub join_accept : ℕ
join_accept = 6

abbrev pub leaving : ℕ
leaving = 8

abbrev pub ack : ℕ
ack = 14

abbrev pub nak : ℕ
nak = 15

abbrev pub get_sessions : ℕ
get_sessions = 16

-- 000, Table 7: the address types that have a written form; a message that has no address counts as one with a null address
abbrev pub null : ℕ
null = 0

abbrev pub ipv4 : ℕ
ipv4 = 1

-- a row has a vector, the type of address, and the length of the data in octets
abbrev row : ℕ → ℕ → ℕ → Row
row v a n = record { vector = v; address = a; len = n }

-- the table, in the order of 01. A wrapper has 20 octets and more: these are its own, and its contents follow
abbrev pub rows : List Row
rows =
    row join null 40
    ∷ row join ipv4 46
    ∷ row join_accept null 26
    ∷ row join_refuse null 25
    ∷ row leaving null 25
    ∷ row nak null 32
    ∷ row get_sessions null 16
    ∷ row ack null 4
    ∷ row reliable_wrapper null 20
    ∷ row unreliable_wrapper null 20
    ∷ []

-- the length in the row of this vector and address type, and none if there is no such row
unfoldable pub look : List Row → ℕ → ℕ → Option ℕ
look rs v a = option_map (λ r. r.len) (find (λ r. eqb v r.vector && eqb a r.address) rs)

unfoldable pub length_of : ℕ → ℕ → Option ℕ
length_of v a = look rows v a

-- whether n octets are just as many as a row says, and whether they are as many or more
abbrev pub exactly : Option ℕ → ℕ → Bool
exactly None n = false
exactly (Some len) n = eqb n len

abbrev pub or_more : Option ℕ → ℕ → Bool
or_more None n = false
or_more (Some len) n = leb len n

-- wrapper contents are at most 1,454 octets (01, "Room")
abbrev pub most_contents : ℕ
most_contents = 1454
