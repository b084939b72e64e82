-- What the contract of reading a message allows (01, "How tight the contracts are"). The call is lent octets to read and none to write, so
-- all that stands after it is its answer. v is the vector and d the data as it was lent.
use Rattle.std.specs.Prelude.{ℕ, ◌≡◌, List, Result}
use Rattle.message.specs.Reading.{read_message}
use Rattle.message.specs.declared.Message.{Message}
use Rattle.refusal.specs.declared.Refusal.{Refusal}

abbrev pub ReadMessageAllows : ℕ → List ℕ → Result Message Refusal → Type 0
ReadMessageAllows v d answer = answer ≡ read_message v d
