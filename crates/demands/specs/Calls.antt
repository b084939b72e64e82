-- Calls over the table as one kind of thing, so that runs can be made of them (demand 3 of the order: "nothing but our calls over the tables"): any arguments, any sizes
-- lent, refused ones too. (The table goes in by value, so it always has its size.) Their meaning is that of `member`, and nothing is defined twice.
use Rattle.std.specs.Prelude.{ℕ, ◌<◌, true, cond, List, Result, Ok, Err, ◌≡◌, eqb, length, replicate}
use Rattle.counter.specs.Distance.{turn}
use Rattle.counter.specs.declared.Total.{Total}
use Rattle.counter.specs.declared.Reliable.{Reliable}
use Rattle.octets.specs.Octets.{Octets}
use Rattle.refusal.specs.declared.Refusal.{Refusal}
use Rattle.record.specs.declared.Record.{Record}
use Rattle.record.specs.Places.{place_at}
use Rattle.table.specs.Table.{table_formed, record_at}
use Rattle.member.specs.Sizes.{table_size, held_size}
use Rattle.member.specs.Messages.{Outcome, message_outcome}
use Rattle.member.specs.Elapsing.{Passing, elapsed_outcome, passed_table}
use Rattle.member.specs.Leaving.{Departing, leave_outcome}
use Rattle.demands.specs.Runs.{Came}

-- a call with all that it is given. Of the pieces lent only the sizes are told; `held` is that of the held octets
pub data Call : Type 0 where
  message : (held deliver reply : ℕ) (sender ours : List ℕ) (v : ℕ) (d : List ℕ) (n : ℕ) → Call
  elapsed : (cells ms : ℕ) → Call
  leave : (reply : ℕ) (owner : List ℕ) (channel reason : ℕ) → Call

-- the table and the held octets: only the calls touch them
pub record State : Type 0 where
  pub table : List Record
  pub held : List ℕ

pub data Answer : Type 0 where
  message : Outcome → Answer
  elapsed : Passing → Answer
  leave : Departing → Answer

-- a call that is lent a piece of another size in place of the held octets
abbrev pub lent_as : ℕ → List ℕ → List ℕ
lent_as n held = cond (eqb n (length held)) held (replicate n 0)

-- what stands in the caller's memory after a call, and what the call answers
abbrev pub message_came : State → ℕ → Outcome → Came State Answer
message_came s held out =
    record {
      state = record { table = out.table; held = cond (eqb held (length s.held)) out.held s.held };
      answer = message out;
    }

abbrev pub elapsed_came : State → Passing → Came State Answer
elapsed_came s p = record { state = record { table = passed_table p; held = s.held }; answer = elapsed p }

abbrev pub leave_came : State → Departing → Came State Answer
leave_came s p = record { state = record { table = p.table; held = s.held }; answer = leave p }

unfoldable pub table_step : State → Call → Came State Answer
table_step s (message held deliver reply sender ours v d n) =
    message_came s held (message_outcome s.table (lent_as held s.held) deliver reply sender ours v d n)
table_step s (elapsed cells ms) = elapsed_came s (elapsed_outcome s.table cells ms)
table_step s (leave reply owner channel reason) = leave_came s (leave_outcome s.table reply owner channel reason)

-- the table that the caller has when a call has answered: the answer's, which `table` takes out of it, or after a refusal the one that went in by value
abbrev pub table_left : {A : Type 0} → (A → List Record) → List Record → Result A Refusal → List Record
table_left table ts (Ok answer) = table answer
table_left table ts (Err why) = ts

-- ---- what the machine's types say of it

-- every number of a record's counters has 32 bits, and it has four places
pub record Sound (r : Record) : Type 0 where
  pub four : length r.places ≡ 4
  pub total : r.total.0 < turn
  pub reliable : r.reliable.0 < turn
  pub known : r.known.0 < turn
  pub acked : r.acked.0 < turn
  pub held : (j : ℕ) → (place_at r.places j).reliable.0 < turn
  pub held_total : (j : ℕ) → (place_at r.places j).total.0 < turn

-- the two numbers of a wrapper or a Join have 32 bits
abbrev pub Both : Total → Reliable → Type 0
Both t r = (t.0 < turn) × (r.0 < turn)

-- the data of a message are octets
abbrev pub Lawful : Call → Type 0
Lawful (message held deliver reply sender ours v d n) = Octets d
Lawful (elapsed cells ms) = Unit {0}
Lawful (leave reply owner channel reason) = Unit {0}

-- ---- a state from which runs begin

-- the table has eight records of the machine's numbers and is well formed, and the held octets have their size
pub record Right (s : State) : Type 0 where
  pub formed : table_formed s.table ≡ true
  pub eight : length s.table ≡ table_size
  pub sound : (k : ℕ) → k < table_size → Sound (record_at s.table k)
  pub size : length s.held ≡ held_size
