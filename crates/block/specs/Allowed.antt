-- What the contract of each public call of this crate allows (01, "How tight the contracts are"). These calls are lent octets to read and
-- none to write, so all that stands after a call is its answer. s is the block as it was lent.
use Rattle.std.specs.Prelude.{ℕ, ◌≡◌, List, Option, Result}
use Rattle.refusal.specs.declared.Refusal.{Refusal}
use Rattle.block.specs.Block.{read_block}
use Rattle.block.specs.Cursor.{open_block, next_message}
use Rattle.block.specs.declared.Found.{Found}
use Rattle.block.specs.declared.Cursor.{Cursor}
use Rattle.block.specs.declared.Opened.{Opened}
use Rattle.block.specs.declared.Following.{Following}
use Rattle.block.specs.declared.Astray.{Astray}

abbrev pub ReadBlockAllows : List ℕ → ℕ → Result (Option Found) Refusal → Type 0
ReadBlockAllows s position answer = answer ≡ read_block s position

abbrev pub OpenBlockAllows : List ℕ → Result Opened Refusal → Type 0
OpenBlockAllows s answer = answer ≡ open_block s

abbrev pub NextMessageAllows : List ℕ → Cursor → Result (Option Following) Astray → Type 0
NextMessageAllows s cursor answer = answer ≡ next_message s cursor
