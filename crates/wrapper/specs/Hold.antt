-- Step 3 of a wrapper (01, "One channel"): delivered, held in a place, or dropped.
use Rattle.std.specs.Prelude.{ℕ, Bool, false, true, cond, not, ◌&&◌, List, set, eqb, position, Option, Some, None, ℤ, pos, negsuc}
use Rattle.std.specs.List.{list_any}
use Rattle.counter.specs.Distance.{distance}
use Rattle.counter.specs.declared.Reliable.{Reliable}
use Rattle.record.specs.With.{with_numbers, with_places}
use Rattle.record.specs.declared.Place.{Place}
use Rattle.record.specs.declared.Record.{Record}
use Rattle.wrapper.specs.declared.Arrived.{Arrived}
use Rattle.wrapper.specs.declared.Fate.TheVariants as fate
use Rattle.wrapper.specs.declared.Placed.{Placed}

-- is z the number n
abbrev pub is : ℕ → ℤ → Bool
is n (pos m) = eqb m n
is n (negsuc m) = false

-- the one that is due: a reliable one right after R, an unreliable one at R
unfoldable pub next_one : Record → Arrived → Bool
next_one r w = is (cond w.reliably 1 0) (distance r.reliable.0 w.reliable.0)

-- a held one with this reliable number
abbrev pub is_numbered : Reliable → Place → Bool
is_numbered n p = p.used && eqb p.reliable.0 n.0

unfoldable pub holds : Reliable → List Place → Bool
holds n ps = list_any (is_numbered n) ps

abbrev pub is_free : Place → Bool
is_free p = not p.used

-- the lowest free place
unfoldable pub lowest_free : List Place → Option ℕ
lowest_free ps = position is_free ps

-- where a wrapper is held: nowhere if it is unreliable, if a held one has its reliable number, or if no place is free
unfoldable pub place_for : Arrived → List Place → Option ℕ
place_for w ps = cond w.reliably (cond (holds w.reliable ps) None (lowest_free ps)) None

abbrev pub held_as : Arrived → Place
held_as w = record { used = true; total = w.total; reliable = w.reliable; len = w.len }

abbrev pub put_in : Record → Arrived → Option ℕ → Placed
put_in r w (Some i) = record { after = with_places r (set r.places i (held_as w)); fate = fate.Held i }
put_in r w None = record { after = r; fate = fate.Dropped }

-- step 3: the next one is delivered, and T and R become its numbers; any other is held or dropped
unfoldable pub placed : Record → Arrived → Placed
placed r w =
    cond (next_one r w)
    (record { after = with_numbers r w.total w.reliable; fate = fate.Delivered })
    (put_in r w (place_for w r.places))
