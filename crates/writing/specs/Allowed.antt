-- What the contract of writing a message allows (01, "How tight the contracts are"): m is the message, c the contents and r the room, both as
-- they were lent.
use Rattle.std.specs.Prelude.{ℕ, ◌≡◌, List, Result}
use Rattle.refusal.specs.declared.Refusal.{Refusal}
use Rattle.message.specs.declared.Message.{Message}
use Rattle.writing.specs.Writing.{wrote, room_after}

-- all that stands after the call: its answer, and the octets of the room
pub record WriteEnds : Type 0 where
  pub answer : Result ℕ Refusal
  pub room : List ℕ

abbrev pub write_ends : Message → List ℕ → List ℕ → WriteEnds
write_ends m c r = record { answer = wrote m c r; room = room_after m c r }

abbrev pub WriteMessageAllows : Message → List ℕ → List ℕ → WriteEnds → Type 0
WriteMessageAllows m c r ends = ends ≡ write_ends m c r
