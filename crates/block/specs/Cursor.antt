-- Reading a block once, message by message: opening it, and the next message from a cursor on. Ours beside 01's reading by position (docs/DECISIONS.md, "Reading a block").
use Rattle.std.specs.Prelude.{ℕ, zero, suc, ◌+◌, ◌≡◌, Bool, cond, not, ◌&&◌, ◌||◌, List, length, ltb, leb, eqb, Option, Some, None, Result, Ok, Err}
use Rattle.std.specs.Result.{result_map_both}
use Rattle.refusal.specs.declared.Refusal.{Refusal}
use Rattle.refusal.specs.declared.Refusal.TheVariants.{WrongSize, Malformed}
use Rattle.block.specs.Pdu.{pdu_at}
use Rattle.block.specs.Block.{most_block, nothing, Parsed, parse}
use Rattle.block.specs.declared.Found.{Found}
use Rattle.block.specs.declared.Whole.{Whole}
use Rattle.block.specs.declared.Cursor.{Cursor}
use Rattle.block.specs.declared.Opened.{Opened}
use Rattle.block.specs.declared.Following.{Following}
use Rattle.block.specs.declared.Astray.{Astray}

-- the cursor before the first message
abbrev pub start : Cursor
start = record { next = 0; before = nothing }

-- the number of a block's messages, or 11
unfoldable pub opened_of : Parsed → Result Opened Refusal
opened_of p = result_map_both (λ ms. record { count = length ms; cursor = start }) Malformed p

-- opening a block refuses what reading it refuses
unfoldable pub open_block : List ℕ → Result Opened Refusal
open_block s = cond (ltb most_block (length s)) (Err WrongSize) (opened_of (parse s))

-- a cursor that cannot be one of this block's: it lies past the end, or the message before it does not lie before it. A block that is too
-- long has no cursors
unfoldable pub astray : ℕ → Cursor → Bool
astray size c =
    ltb most_block size
    || ltb size c.next
    || (not (eqb c.next 0) && (leb c.next c.before.vector || ltb c.next (c.before.place + c.before.len)))

-- what a PDU gives to whoever reads on; a block that was opened has no malformed one, so a cursor at one cannot be its own
abbrev pub passed : Option Whole → Result (Option Following) Astray
passed (Some w) = Ok (Some (record { found = w.found; cursor = record { next = w.next; before = w.found } }))
passed None = Err (record {})

-- none of what reading on answers is one of 01's refusals: a block is judged when it is opened
unfoldable pub next_message : List ℕ → Cursor → Result (Option Following) Astray
next_message s c =
    cond (astray (length s) c) (Err (record {}))
    (cond (eqb c.next (length s)) (Ok None) (passed (pdu_at s c.next c.before)))

-- ---- what `next_message` is promised to give (proofs/InTurn.antt)

-- go on from the cursor behind a message; the end stays the end
abbrev pub on_from : Result (Option Following) Astray → (Cursor → Result (Option Following) Astray) → Result (Option Following) Astray
on_from (Ok (Some f)) rest = rest f.cursor
on_from (Ok None) rest = Ok None
on_from (Err e) rest = Err e

-- the answer of call number k, counted from 0, where each call begins at the cursor that the call before it gave
unfoldable pub call_at : ℕ → List ℕ → Cursor → Result (Option Following) Astray
call_at zero s c = next_message s c
call_at (suc k) s c = on_from (next_message s c) (λ d. call_at k s d)

-- both name the same message, or both say that there is none
abbrev pub Same : Result (Option Following) Astray → Result (Option Found) Refusal → Type 0
Same (Ok (Some f)) (Ok (Some n)) = f.found ≡ n
Same (Ok (Some f)) (Ok None) = ⊥
Same (Ok None) (Ok (Some n)) = ⊥
Same (Ok None) (Ok None) = Unit
Same (Ok a) (Err r) = ⊥
Same (Err e) a = ⊥
