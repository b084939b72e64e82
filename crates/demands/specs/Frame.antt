-- What a call over the table leaves alone (01, "One channel": a step is of one record; "Room": four places per record).
use Rattle.std.specs.Prelude.{ℕ, Bool, true, false, List, Option, Some, None, Result, Ok, Err, ◌≡◌}
use Rattle.refusal.specs.declared.Refusal.{Refusal}
use Rattle.record.specs.declared.Record.{Record}
use Rattle.joining.specs.declared.Decision.TheVariants as decision
use Rattle.table.specs.Table.{record_at}
use Rattle.member.specs.Messages.{Outcome}
use Rattle.member.specs.declared.Given.{Given}
use Rattle.member.specs.declared.Given.TheVariants as given
use Rattle.demands.specs.Channel.{slab}

-- the record that a message call moves, if it moves one: the new one of a Join, or that of a wrapper
abbrev pub moved : Result Given Refusal → Option ℕ
moved (Err why) = None
moved (Ok (given.Joined at (decision.Refuse reason))) = None
moved (Ok (given.Joined at (decision.Again r reciprocal))) = None
moved (Ok (given.Joined at (decision.Make p))) = at
moved (Ok (given.Wrapped at fate thrown reply)) = Some at

-- the call was a wrapper that its record took
abbrev pub is_wrapped : Result Given Refusal → Bool
is_wrapped (Err why) = false
is_wrapped (Ok (given.Joined at answer)) = false
is_wrapped (Ok (given.Wrapped at fate thrown reply)) = true

-- record k and the octets of its places are as they were
pub record Still (ts : List Record) (h : List ℕ) (k : ℕ) (out : Outcome) : Type 0 where
  pub at : record_at out.table k ≡ record_at ts k
  pub places : slab k out.held ≡ slab k h
