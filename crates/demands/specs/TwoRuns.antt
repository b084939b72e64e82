-- Demand 3 of the order, as a statement on two runs: what it is for a table to have a channel, for two tables to have it alike, for two runs to agree in its own
-- calls, and what is seen of it after each of them.
use Rattle.std.specs.Prelude.{ℕ, true, cond, List, [], ◌∷◌, ◌≡◌, eqb, get_or}
use Rattle.octets.specs.Octets.{part}
use Rattle.message.specs.Lengths.{join}
use Rattle.message.specs.declared.Cid.{Cid}
use Rattle.record.specs.declared.Record.{Record}
use Rattle.record.specs.Places.{no_place}
use Rattle.table.specs.Table.{named, record_at}
use Rattle.carry.specs.Carried.{place_begins}
use Rattle.demands.specs.Runs.{Came}
use Rattle.demands.specs.Calls as calls
use Rattle.demands.specs.Calls.{Call, State, Right}
use Rattle.demands.specs.Channel.{Channel, Told, channel_at}

-- "A joined channel, named by its owner's component and its channel number": a well-formed table of which record i has it
pub record Joined (i : ℕ) (owner : Cid) (channel : ℕ) (s : State) : Type 0 where
  pub right : Right s
  pub has : named owner channel (record_at s.table i) ≡ true

-- ---- "the same record and held wrappers at the same place"

-- the contents of place j: the octets of the wrapper that it holds, as many as its length says. A free place holds none, whatever octets lie there
abbrev pub contents_at : Channel → ℕ → List ℕ
contents_at h j = cond (get_or h.at.places j no_place).used (part h.held (place_begins 0 j) (get_or h.at.places j no_place).len) []

-- the contents of all four places
unfoldable pub held_contents : Channel → List (List ℕ)
held_contents h = contents_at h 0 ∷ contents_at h 1 ∷ contents_at h 2 ∷ contents_at h 3 ∷ []

pub record SameChannel (i : ℕ) (s t : State) : Type 0 where
  pub at : record_at s.table i ≡ record_at t.table i
  pub held : held_contents (channel_at i s) ≡ held_contents (channel_at i t)

-- ---- "calls that name this channel agree in both, in order and in sizes lent"

-- what counts of an own call: all that it is given and the sizes that it is lent; the reciprocal number counts with a Join alone
abbrev pub counted : Call → Call
counted (calls.message held deliver reply sender ours v d n) = calls.message held deliver reply sender ours v d (cond (eqb v join) n 0)
counted (calls.elapsed cells ms) = calls.elapsed cells ms
counted (calls.leave reply owner channel reason) = calls.leave reply owner channel reason

-- ---- "its deliveries, its replies and its record agree"

-- what is seen after an own call: the record, the contents of its held wrappers, and the answer with all octets delivered and replied
pub record Seen : Type 0 where
  pub at : Record
  pub contents : List (List ℕ)
  pub told : Told

abbrev pub seen_of : Came Channel Told → Seen
seen_of m = record { at = m.state.at; contents = held_contents m.state; told = m.answer }
