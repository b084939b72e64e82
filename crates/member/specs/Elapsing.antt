-- An elapsed call (01, "Refusal numbers" and "One channel", elapsed): what ms milliseconds do to each record of the table ts by itself, and then what
-- is written into the cells.
use Rattle.std.specs.Prelude.{ℕ, ◌+◌, ◌*◌, ⊤, cond, not, List, [], ◌∷◌, Result, Ok, Err, map, ◌≡◌, length, ltb}
use Rattle.octets.specs.Octets.{splice}
use Rattle.record.specs.declared.Record.{Record}
use Rattle.refusal.specs.declared.Refusal.{Refusal}
use Rattle.refusal.specs.declared.Refusal.TheVariants as refusal
use Rattle.gap.specs.Elapsed.{gives, elapsed_of}
use Rattle.gap.specs.declared.Event.TheVariants as event
use Rattle.gap.specs.declared.Elapsed.{Elapsed}
use Rattle.table.specs.Table.{table_formed}
use Rattle.sending.specs.Sent.{event_of}
use Rattle.member.specs.Sizes.{cell_size, elapsed_sizes}
use Rattle.member.specs.declared.Cell.{Cell}
use Rattle.member.specs.declared.Passed.{Passed}

-- the most that may pass in one call
abbrev pub longest : ℕ
longest = 1000

-- ---- as values

-- whether the call is refused, and each record after it with what it sends
pub record Passing : Type 0 where
  pub given : Result ⊤ Refusal
  pub each : List Elapsed

-- refused: every record stands, and nothing is sent
abbrev pub refused_elapsed : List Record → Refusal → Passing
refused_elapsed ts why = record { given = Err why; each = map (λ r. gives r event.Nothing) ts }

abbrev pub passing : List Record → ℕ → Passing
passing ts ms = record { given = Ok tt; each = map (λ r. elapsed_of r ms) ts }

-- the refusals in their order: 1, 2, 3. Of the cells only their size plays a part
unfoldable pub elapsed_outcome : List Record → ℕ → ℕ → Passing
elapsed_outcome ts cells ms =
    cond (not (elapsed_sizes (length ts) cells)) (refused_elapsed ts refusal.WrongSize)
    (cond (not (table_formed ts)) (refused_elapsed ts refusal.WrongTable)
    (cond (ltb longest ms) (refused_elapsed ts refusal.TooMuchTime)
    (passing ts ms)))

-- ---- written into the cells

abbrev pub sent_by : Elapsed → List ℕ
sent_by e = event_of e.after.terms e.event

abbrev pub cell_of : Elapsed → Cell
cell_of e = record { event = e.event; len = length (sent_by e) }

-- the table after the call
abbrev pub passed_table : Passing → List Record
passed_table p = map (λ e. e.after) p.each

-- what is answered where this is given
abbrev pub passed_as : Passing → Result ⊤ Refusal → Result Passed Refusal
passed_as p (Ok done) = Ok (record { table = passed_table p; cells = map cell_of p.each })
passed_as p (Err why) = Err why

abbrev pub passed : Passing → Result Passed Refusal
passed p = passed_as p p.given

-- records from number i on, each into its cell of 64 octets
unfoldable pub cells_from : ℕ → List Elapsed → List ℕ → List ℕ
cells_from i [] room = room
cells_from i (e ∷ es) room = cells_from (i + 1) es (splice room (i * cell_size) (sent_by e))

abbrev pub cells_after : Passing → List ℕ → List ℕ
cells_after p room = cells_from 0 p.each room

-- ---- all that stands after the call, and what its contract allows

-- the answer, and what the cells hold
pub record ElapsedEnds : Type 0 where
  pub answer : Result Passed Refusal
  pub cells : List ℕ

-- what `p` leaves, where `cells` lay in them before
abbrev pub elapsed_end : Passing → List ℕ → ElapsedEnds
elapsed_end p cells = record { answer = passed p; cells = cells_after p cells }

-- the call ends as `p` says
abbrev pub ElapsedEndsAs : Passing → List ℕ → ElapsedEnds → Type 0
ElapsedEndsAs p cells end = end ≡ elapsed_end p cells

-- what the contract of an elapsed call allows
abbrev pub ElapsedAllows : List Record → List ℕ → ℕ → ElapsedEnds → Type 0
ElapsedAllows ts cells ms end = ElapsedEndsAs (elapsed_outcome ts (length cells) ms) cells end
