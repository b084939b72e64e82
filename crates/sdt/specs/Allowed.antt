-- What the contract of each of C's calls allows (01, "How tight the contracts are"). A call that is lent octets to read alone leaves nothing
-- but its answer; `sdt_write_message` leaves its answer and the room. s is the block, d the data, c the contents and r the room, all as they
-- were lent.
use Rattle.std.specs.Prelude.{ℕ, ◌≡◌, List}
use Rattle.block.specs.Block.{read_block}
use Rattle.block.specs.Cursor.{open_block, next_message}
use Rattle.block.specs.declared.Cursor.{Cursor}
use Rattle.message.specs.Reading.{read_message}
use Rattle.plain.specs.declared.Plain.{Plain}
use Rattle.sdt.specs.Blocks.{block_answer, open_answer, next_answer}
use Rattle.sdt.specs.Messages.{message_answer, written_answer, written_room}
use Rattle.sdt.specs.declared.BlockAnswer.{BlockAnswer}
use Rattle.sdt.specs.declared.OpenAnswer.{OpenAnswer}
use Rattle.sdt.specs.declared.NextAnswer.{NextAnswer}
use Rattle.sdt.specs.declared.MessageAnswer.{MessageAnswer}
use Rattle.sdt.specs.declared.WriteAnswer.{WriteAnswer}

abbrev pub SdtReadBlockAllows : List ℕ → ℕ → BlockAnswer → Type 0
SdtReadBlockAllows s position answer = answer ≡ block_answer (read_block s position)

abbrev pub SdtOpenBlockAllows : List ℕ → OpenAnswer → Type 0
SdtOpenBlockAllows s answer = answer ≡ open_answer (open_block s)

abbrev pub SdtNextMessageAllows : List ℕ → Cursor → NextAnswer → Type 0
SdtNextMessageAllows s cursor answer = answer ≡ next_answer cursor (next_message s cursor)

abbrev pub SdtReadMessageAllows : ℕ → List ℕ → MessageAnswer → Type 0
SdtReadMessageAllows v d answer = answer ≡ message_answer (read_message v d)

-- all that stands after writing: the answer, and the octets of the room
pub record SdtWriteEnds : Type 0 where
  pub answer : WriteAnswer
  pub room : List ℕ

abbrev pub sdt_write_ends : Plain → List ℕ → List ℕ → SdtWriteEnds
sdt_write_ends p c r = record { answer = written_answer p c r; room = written_room p c r }

abbrev pub SdtWriteMessageAllows : Plain → List ℕ → List ℕ → SdtWriteEnds → Type 0
SdtWriteMessageAllows p c r ends = ends ≡ sdt_write_ends p c r
