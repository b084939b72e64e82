-- What C is answered when it reads blocks: 01's number and values for each answer of `block`, as a struct of numbers.
use Rattle.std.specs.Prelude.{ℕ, cond, eqb, Option, Some, None, Result, Ok, Err}
use Rattle.refusal.specs.Numbers.{number_of}
use Rattle.refusal.specs.declared.Refusal.{Refusal}
use Rattle.refusal.specs.declared.Refusal.TheVariants.{Malformed}
use Rattle.block.specs.Block.{nothing}
use Rattle.block.specs.Cursor.{start}
use Rattle.block.specs.declared.Found.{Found}
use Rattle.block.specs.declared.Cursor.{Cursor}
use Rattle.block.specs.declared.Opened.{Opened}
use Rattle.block.specs.declared.Following.{Following}
use Rattle.block.specs.declared.Astray.{Astray}
use Rattle.sdt.specs.declared.BlockAnswer.{BlockAnswer}
use Rattle.sdt.specs.declared.OpenAnswer.{OpenAnswer}
use Rattle.sdt.specs.declared.NextAnswer.{NextAnswer}

-- ---- outcomes: 01's number of a refusal, or one of these (100 and 101 are ours: docs/DECISIONS.md, "What C sees")

-- nothing is refused
abbrev pub ok : ℕ
ok = 0

-- the block has no message at this position, or no further one
abbrev pub fewer : ℕ
fewer = 100

-- the cursor cannot be one of this block's
abbrev pub astray : ℕ
astray = 101

-- the place that is answered beside a refusal's number: that of the first malformed PDU, and with any other refusal 0
abbrev pub place_of : Refusal → ℕ
place_of (Malformed at) = at
place_of r = 0

unfoldable pub block_answer : Result (Option Found) Refusal → BlockAnswer
block_answer (Ok (Some found)) = record { outcome = ok; found = found; bad = 0 }
block_answer (Ok None) = record { outcome = fewer; found = nothing; bad = 0 }
block_answer (Err r) = record { outcome = number_of r; found = nothing; bad = place_of r }

unfoldable pub open_answer : Result Opened Refusal → OpenAnswer
open_answer (Ok o) = record { outcome = ok; count = o.count; cursor = o.cursor; bad = 0 }
open_answer (Err r) = record { outcome = number_of r; count = 0; cursor = start; bad = place_of r }

-- c is the cursor that was given
unfoldable pub next_answer : Cursor → Result (Option Following) Astray → NextAnswer
next_answer c (Ok (Some f)) = record { outcome = ok; found = f.found; cursor = f.cursor }
next_answer c (Ok None) = record { outcome = fewer; found = nothing; cursor = c }
next_answer c (Err e) = record { outcome = astray; found = nothing; cursor = c }

-- the place that stands in an answer of this outcome: that of the bad PDU with 11, and else 0
abbrev pub bad_with : ℕ → ℕ → ℕ
bad_with outcome bad = cond (eqb outcome 11) bad 0
