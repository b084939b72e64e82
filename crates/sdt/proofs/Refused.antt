-- A refusal changes nothing and returns its number alone; 11 also gives the place of the bad PDU (01, "Refusal numbers"). Said of whatever
-- the contract of each of C's calls allows: if the outcome is not 0, every other field of the answer is what it is when there is nothing to
-- say, and the room is as it was lent. Outcomes 100 and 101, which are no refusals, are under the same rule. Assumes nothing.
use Prim.Native.Nat.{ℕ}
use mathlib.Core.Path.{◌≡◌, refl}
use mathlib.Core.Logic.{◌≢◌}
use mathlib.Core.List.{List}
use Rattle.block.specs.Block.{nothing, read_block}
use Rattle.block.specs.Cursor.{start, open_block, next_message}
use Rattle.std.specs.Prelude.{Option, Some, None, Result, Ok, Err}
use Rattle.refusal.specs.Numbers.{number_of}
use Rattle.refusal.specs.declared.Refusal.{Refusal}
use Rattle.refusal.specs.declared.Refusal.TheVariants as refusal
use Rattle.block.specs.declared.Found.{Found}
use Rattle.block.specs.declared.Cursor.{Cursor}
use Rattle.block.specs.declared.Opened.{Opened}
use Rattle.block.specs.declared.Following.{Following}
use Rattle.block.specs.declared.Astray.{Astray}
use Rattle.message.specs.Reading.{read_message}
use Rattle.message.specs.declared.Message.{Message}
use Rattle.writing.specs.Writing as writing
use Rattle.plain.specs.Messages.{no_message, typed_of}
use Rattle.plain.specs.declared.Plain.{Plain}
use Rattle.sdt.specs.Blocks.{bad_with, ok, place_of, block_answer, open_answer, next_answer}
use Rattle.sdt.specs.Messages.{message_answer, write_answer, answer_typed, room_typed, written_answer, written_room}
use Rattle.sdt.specs.Allowed.{SdtReadBlockAllows, SdtOpenBlockAllows, SdtNextMessageAllows, SdtReadMessageAllows, SdtWriteEnds, SdtWriteMessageAllows}
use Rattle.sdt.specs.declared.BlockAnswer.{BlockAnswer}
use Rattle.sdt.specs.declared.OpenAnswer.{OpenAnswer}
use Rattle.sdt.specs.declared.NextAnswer.{NextAnswer}
use Rattle.sdt.specs.declared.MessageAnswer.{MessageAnswer}
use Rattle.sdt.specs.declared.WriteAnswer.{WriteAnswer}

-- ---- blocks

-- only with 11 is there a place
place_with : (r : Refusal) → bad_with (number_of r) (place_of r) ≡ place_of r
place_with refusal.WrongSize = refl
place_with refusal.WrongTable = refl
place_with refusal.TooMuchTime = refl
place_with refusal.NoForm = refl
place_with refusal.NotForUs = refl
place_with refusal.NoRecord = refl
place_with refusal.ContentsOver = refl
place_with refusal.Old = refl
place_with refusal.Inconsistent = refl
place_with refusal.WrongReason = refl
place_with (refusal.Malformed at) = refl

block_alone : (a : Result (Option Found) Refusal) → (block_answer a).outcome ≢ ok
    → block_answer a ≡ record { outcome = (block_answer a).outcome; found = nothing; bad = bad_with (block_answer a).outcome (block_answer a).bad }
unfolding block_answer
block_alone (Ok (Some found)) h = absurd (h refl)
block_alone (Ok None) h = refl
block_alone (Err r) h = rw (place_with r)

pub read_block_refused : (s : List ℕ) (position : ℕ) (a : BlockAnswer) → SdtReadBlockAllows s position a → a.outcome ≢ ok
    → a ≡ record { outcome = a.outcome; found = nothing; bad = bad_with a.outcome a.bad }
read_block_refused s position a e = rw e (block_alone (read_block s position))

open_alone : (a : Result Opened Refusal) → (open_answer a).outcome ≢ ok
    → open_answer a ≡ record { outcome = (open_answer a).outcome; count = 0; cursor = start; bad = bad_with (open_answer a).outcome (open_answer a).bad }
unfolding open_answer
open_alone (Ok o) h = absurd (h refl)
open_alone (Err r) h = rw (place_with r)

pub open_block_refused : (s : List ℕ) (a : OpenAnswer) → SdtOpenBlockAllows s a → a.outcome ≢ ok
    → a ≡ record { outcome = a.outcome; count = 0; cursor = start; bad = bad_with a.outcome a.bad }
open_block_refused s a e = rw e (open_alone (open_block s))

-- reading on refuses nothing; where there is no message, the cursor stays as it was given
next_alone : (c : Cursor) (a : Result (Option Following) Astray) → (next_answer c a).outcome ≢ ok
    → next_answer c a ≡ record { outcome = (next_answer c a).outcome; found = nothing; cursor = c }
unfolding next_answer
next_alone c (Ok (Some f)) h = absurd (h refl)
next_alone c (Ok None) h = refl
next_alone c (Err e) h = refl

pub next_message_refused : (s : List ℕ) (c : Cursor) (a : NextAnswer) → SdtNextMessageAllows s c a → a.outcome ≢ ok
    → a ≡ record { outcome = a.outcome; found = nothing; cursor = c }
next_message_refused s c a e = rw e (next_alone c (next_message s c))

-- ---- messages

message_alone : (a : Result Message Refusal) → (message_answer a).outcome ≢ ok
    → message_answer a ≡ record { outcome = (message_answer a).outcome; message = no_message }
unfolding message_answer
message_alone (Ok m) h = absurd (h refl)
message_alone (Err r) h = refl

pub read_message_refused : (v : ℕ) (d : List ℕ) (a : MessageAnswer) → SdtReadMessageAllows v d a → a.outcome ≢ ok
    → a ≡ record { outcome = a.outcome; message = no_message }
read_message_refused v d a e = rw e (message_alone (read_message v d))

-- the answer and what is left in the room, of a message and of numbers that are none
abbrev Alone : WriteAnswer → List ℕ → List ℕ → Type 0
Alone a s r = (a ≡ record { outcome = a.outcome; length = 0 }) × (s ≡ r)

wrote_alone : (w : Result ℕ Refusal) (m : Message) (c r : List ℕ) → (write_answer w).outcome ≢ ok → Alone (write_answer w) (writing.leaves w m c r) r
unfolding write_answer
wrote_alone (Ok n) m c r h = absurd (h refl)
wrote_alone (Err e) m c r h = (refl, refl)

typed_alone : (t : Option Message) (c r : List ℕ) → (answer_typed t c r).outcome ≢ ok → Alone (answer_typed t c r) (room_typed t c r) r
unfolding writing.room_after write_answer
typed_alone (Some m) c r h = wrote_alone (writing.wrote m c r) m c r h
typed_alone None c r h = (refl, refl)

pub write_message_refused : (p : Plain) (c r : List ℕ) (e : SdtWriteEnds) → SdtWriteMessageAllows p c r e → e.answer.outcome ≢ ok
    → (e.answer ≡ record { outcome = e.answer.outcome; length = 0 }) × (e.room ≡ r)
unfolding written_answer written_room
write_message_refused p c r e f = rw f (typed_alone (typed_of p) c r)
