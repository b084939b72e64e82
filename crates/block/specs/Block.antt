-- The messages of a block, and the one at a position (01, "Blocks and layouts").
use Rattle.std.specs.Prelude.{ℕ, zero, suc, cond, List, [], ◌∷◌, length, ltb, slice_get, Option, Some, None, Result, Ok, Err}
use Rattle.std.specs.Result.{result_map_both}
use Rattle.refusal.specs.declared.Refusal.{Refusal}
use Rattle.refusal.specs.declared.Refusal.TheVariants.{WrongSize, Malformed}
use Rattle.block.specs.Pdu.{pdu_at}
use Rattle.block.specs.declared.Found.{Found}
use Rattle.block.specs.declared.Whole.{Whole}
use Rattle.block.specs.declared.Scanned.{Scanned}

-- a block is at most 65,535 octets (01, "Room")
abbrev pub most_block : ℕ
most_block = 65535

-- what a block says: all its messages in order, or the place of its first malformed PDU
abbrev pub Parsed : Type 0
Parsed = Result (List Found) ℕ

abbrev pub with : Found → Parsed → Parsed
with m (Ok ms) = Ok (m ∷ ms)
with m (Err at) = Err at

-- go on behind a whole PDU; stop at a malformed one
abbrev pub onward : ℕ → Option Whole → (Found → ℕ → Parsed) → Parsed
onward at None rest = Err at
onward at (Some w) rest = with w.found (rest w.found w.next)

-- the messages of the PDUs from `at` on, up to the block's end; `before` is the message before them. The first argument only bounds the
-- number of PDUs: as each has two octets or more, the block's length is enough (proofs/Fuel.antt: a greater one gives the same)
unfoldable pub parse_from : ℕ → List ℕ → ℕ → Found → Parsed
parse_from zero s at before = Ok []
parse_from (suc fuel) s at before =
    cond (ltb at (length s))
    (onward at (pdu_at s at before) (λ m next. parse_from fuel s next m))
    (Ok [])

-- before the first PDU there is no message; none of this is read, since the first PDU has V, H and D
abbrev pub nothing : Found
nothing = record { vector = 0; place = 0; len = 0 }

unfoldable pub parse : List ℕ → Parsed
parse s = parse_from (length s) s 0 nothing

-- the message at a position, counted from 0, if there is one; or 11 with the place of the first malformed PDU, whichever message is asked for
unfoldable pub asked : ℕ → Parsed → Result (Option Found) Refusal
asked position p = result_map_both (λ ms. slice_get ms position) Malformed p

-- reading a block checks 1, then 11 (01, "Refusal numbers")
unfoldable pub read_block : List ℕ → ℕ → Result (Option Found) Refusal
read_block s position = cond (ltb most_block (length s)) (Err WrongSize) (asked position (parse s))

-- ---- for the code alone: one pass over a block, which reading and opening share. Nothing above leans on it

unfoldable pub scan_of : List ℕ → ℕ → Result Scanned Refusal
scan_of s position =
    cond (ltb most_block (length s)) (Err WrongSize)
    (result_map_both (λ ms. record { count = length ms; found = slice_get ms position }) Malformed (parse s))
