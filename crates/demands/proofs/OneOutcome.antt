-- The contract of each public call allows one outcome: any two outcomes that it allows for the same input are equal. What a contract allows is said once, in
-- specs/ of the call's crate (`MessageAllows` and the like), and the contract in the code and the theorem here use that very definition. Assumes nothing.
use Prim.Native.Nat.{ℕ}
use mathlib.Core.List.{List}
use mathlib.Core.Path.{◌≡◌, sym, ◌∙◌}
use Rattle.block.specs.Allowed.{ReadBlockAllows, OpenBlockAllows, NextMessageAllows}
use Rattle.block.specs.declared.Cursor.{Cursor}
use Rattle.message.specs.Allowed.{ReadMessageAllows}
use Rattle.message.specs.declared.Message.{Message}
use Rattle.record.specs.declared.Record.{Record}
use Rattle.writing.specs.Allowed.{WriteMessageAllows}
use Rattle.member.specs.Messages.{MessageAllows}
use Rattle.member.specs.Elapsing.{ElapsedAllows}
use Rattle.member.specs.Leaving.{LeaveAllows}
use Rattle.plain.specs.declared.Plain.{Plain}
use Rattle.sdt.specs.Allowed.{SdtReadBlockAllows, SdtOpenBlockAllows, SdtNextMessageAllows, SdtReadMessageAllows, SdtWriteMessageAllows}
use Rattle.demands.specs.Allowed.{OneOutcome}

-- two that are the same third are equal
one : {A : Type 0} {x : A} → OneOutcome (λ e. e ≡ x)
one e f a b = a ∙ sym b

-- ---- the calls over the table (crate `member`)

pub message_one : (ts : List Record) (held deliver reply sender ours : List ℕ) (v : ℕ) (d : List ℕ) (n : ℕ)
    → OneOutcome (MessageAllows ts held deliver reply sender ours v d n)
message_one ts held deliver reply sender ours v d n = one

pub elapsed_one : (ts : List Record) (cells : List ℕ) (ms : ℕ) → OneOutcome (ElapsedAllows ts cells ms)
elapsed_one ts cells ms = one

pub leave_one : (ts : List Record) (reply owner : List ℕ) (channel reason : ℕ) → OneOutcome (LeaveAllows ts reply owner channel reason)
leave_one ts reply owner channel reason = one

-- ---- blocks (crate `block`)

pub read_block_one : (s : List ℕ) (position : ℕ) → OneOutcome (ReadBlockAllows s position)
read_block_one s position = one

pub open_block_one : (s : List ℕ) → OneOutcome (OpenBlockAllows s)
open_block_one s = one

pub next_message_one : (s : List ℕ) (cursor : Cursor) → OneOutcome (NextMessageAllows s cursor)
next_message_one s cursor = one

-- ---- messages (crates `message` and `writing`)

pub read_message_one : (v : ℕ) (d : List ℕ) → OneOutcome (ReadMessageAllows v d)
read_message_one v d = one

pub write_message_one : (m : Message) (c r : List ℕ) → OneOutcome (WriteMessageAllows m c r)
write_message_one m c r = one

-- ---- what C links (crate `sdt`)

pub sdt_read_block_one : (s : List ℕ) (position : ℕ) → OneOutcome (SdtReadBlockAllows s position)
sdt_read_block_one s position = one

pub sdt_open_block_one : (s : List ℕ) → OneOutcome (SdtOpenBlockAllows s)
sdt_open_block_one s = one

pub sdt_next_message_one : (s : List ℕ) (cursor : Cursor) → OneOutcome (SdtNextMessageAllows s cursor)
sdt_next_message_one s cursor = one

pub sdt_read_message_one : (v : ℕ) (d : List ℕ) → OneOutcome (SdtReadMessageAllows v d)
sdt_read_message_one v d = one

pub sdt_write_message_one : (p : Plain) (c r : List ℕ) → OneOutcome (SdtWriteMessageAllows p c r)
sdt_write_message_one p c r = one
