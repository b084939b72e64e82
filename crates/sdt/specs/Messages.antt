-- What C is answered when it reads or writes a message: 01's number and values for each answer of `message` and `writing`, as a struct of
-- numbers.
use Rattle.std.specs.Prelude.{ℕ, List, Option, Some, None, Result, Ok, Err}
use Rattle.refusal.specs.Numbers.{number_of}
use Rattle.refusal.specs.declared.Refusal.{Refusal}
use Rattle.refusal.specs.declared.Refusal.TheVariants.{NoForm}
use Rattle.message.specs.declared.Message.{Message}
use Rattle.writing.specs.Writing.{wrote, room_after}
use Rattle.plain.specs.Messages.{no_message, plain_of, typed_of}
use Rattle.plain.specs.declared.Plain.{Plain}
use Rattle.sdt.specs.Blocks.{ok}
use Rattle.sdt.specs.declared.MessageAnswer.{MessageAnswer}
use Rattle.sdt.specs.declared.WriteAnswer.{WriteAnswer}

-- reading: 0 and the message, or a refusal's number and none
unfoldable pub message_answer : Result Message Refusal → MessageAnswer
message_answer (Ok m) = record { outcome = ok; message = plain_of m }
message_answer (Err r) = record { outcome = number_of r; message = no_message }

-- writing: 0 and the number of octets written, or a refusal's number
unfoldable pub write_answer : Result ℕ Refusal → WriteAnswer
write_answer (Ok n) = record { outcome = ok; length = n }
write_answer (Err r) = record { outcome = number_of r; length = 0 }

-- p is the message as numbers, c the contents and r the room. Numbers that are none of the nine messages have no written form: 4
abbrev pub answer_typed : Option Message → List ℕ → List ℕ → WriteAnswer
answer_typed (Some m) c r = write_answer (wrote m c r)
answer_typed None c r = write_answer (Err NoForm)

abbrev pub room_typed : Option Message → List ℕ → List ℕ → List ℕ
room_typed (Some m) c r = room_after m c r
room_typed None c r = r

unfoldable pub written_answer : Plain → List ℕ → List ℕ → WriteAnswer
written_answer p c r = answer_typed (typed_of p) c r

unfoldable pub written_room : Plain → List ℕ → List ℕ → List ℕ
written_room p c r = room_typed (typed_of p) c r
