-- One PDU of a block (01, "Blocks and layouts"): its flags, its length, when it is malformed, and the message that it gives.
-- s is the block, `at` the place where the PDU begins, and b its first octet.
use Rattle.std.specs.Prelude.{ℕ, ◌+◌, ◌-◌, ◌/◌, ◌%◌, Bool, cond, not, ◌&&◌, ◌||◌, List, ◌∷◌, length, get_or, ltb, eqb, Option, Some, None}
use Rattle.octets.specs.Octets.{number, part}
use Rattle.block.specs.declared.Found.{Found}
use Rattle.block.specs.declared.Whole.{Whole}

-- the top four bits of the first octet
abbrev pub has_l : ℕ → Bool
has_l b = eqb (b / 128 % 2) 1

abbrev pub has_v : ℕ → Bool
has_v b = eqb (b / 64 % 2) 1

abbrev pub has_h : ℕ → Bool
has_h b = eqb (b / 32 % 2) 1

abbrev pub has_d : ℕ → Bool
has_d b = eqb (b / 16 % 2) 1

-- the octets of flags and length: one follows the first, or two if L is set
unfoldable pub head_size : ℕ → ℕ
head_size b = cond (has_l b) 3 2

-- a PDU's own fields: flags and length, and its vector of one octet if V is set. Base messages have no header, so H adds none
unfoldable pub fields : ℕ → ℕ
fields b = cond (has_v b) (head_size b + 1) (head_size b)

-- the length of the whole PDU: the low four bits of its first octet and the one or two octets that follow
unfoldable pub size_at : List ℕ → ℕ → ℕ
size_at s at = number ((get_or s at 0 % 16) ∷ part s (at + 1) (head_size (get_or s at 0) - 1))

-- ---- malformed: 01's five clauses, each by itself

-- a first PDU without V, H or D; the first PDU is the one at place 0
unfoldable pub lacks_flag : ℕ → ℕ → Bool
lacks_flag at b = eqb at 0 && not (has_v b && has_h b && has_d b)

-- a length below its own fields
abbrev pub below_fields : List ℕ → ℕ → Bool
below_fields s at = ltb (size_at s at) (fields (get_or s at 0))

-- length octets missing
abbrev pub length_missing : List ℕ → ℕ → Bool
length_missing s at = ltb (length s) (at + head_size (get_or s at 0))

-- a length past the block's end
abbrev pub past_end : List ℕ → ℕ → Bool
past_end s at = ltb (length s) (at + size_at s at)

-- octets left over with D clear; `own` are the PDU's own fields and `size` is its length
unfoldable pub left_over : ℕ → ℕ → ℕ → Bool
left_over b own size = not (has_d b) && ltb own size

unfoldable pub malformed : List ℕ → ℕ → Bool
malformed s at =
    lacks_flag at (get_or s at 0)
    || below_fields s at
    || length_missing s at
    || past_end s at
    || left_over (get_or s at 0) (fields (get_or s at 0)) (size_at s at)

-- ---- the message of a PDU

-- V clear takes the vector of the PDU before, and D clear its data
unfoldable pub found_at : ℕ → ℕ → ℕ → Found → Found
found_at at b size before =
    record {
      vector = cond (has_v b) (at + head_size b) before.vector;
      place = cond (has_d b) (at + fields b) before.place;
      len = cond (has_d b) (size - fields b) before.len;
    }

-- what stands at a place where a PDU begins: nothing that is read, if it is malformed, or else a whole PDU; the next one begins behind it
unfoldable pub pdu_at : List ℕ → ℕ → Found → Option Whole
pdu_at s at before =
    cond (malformed s at) None
    (Some (record { found = found_at at (get_or s at 0) (size_at s at) before; next = at + size_at s at }))
