-- A wrapper's plan carried out in lent octets (01, "Room" and "One channel", steps 3 and 4): what is held and what is delivered, first as
-- values and then written into the rooms.
use Rattle.std.specs.Prelude.{ℕ, ◌+◌, ◌*◌, true, false, List, [], ◌∷◌, ◌++◌, map, set, take, replicate}
use Rattle.octets.specs.Octets.{part, splice}
use Rattle.record.specs.Places.{place_at}
use Rattle.record.specs.WellFormed.{most_contents}
use Rattle.record.specs.declared.Place.{Place}
use Rattle.wrapper.specs.declared.Arrived.{Arrived}
use Rattle.wrapper.specs.declared.Fate.{Fate}
use Rattle.wrapper.specs.declared.Fate.TheVariants as fate
use Rattle.wrapper.specs.declared.Plan.{Plan}
use Rattle.carry.specs.declared.Delivery.{Delivery}
use Rattle.carry.specs.declared.Deliveries.{Deliveries}

-- ---- as values

-- where place j of record i begins: each record has four places of 1,454 octets
unfoldable pub place_begins : ℕ → ℕ → ℕ
place_begins i j = (i * 4 + j) * most_contents

-- the held octets after step 3: the contents c of a wrapper that is held stand in its place
abbrev pub held_after : ℕ → Fate → List ℕ → List ℕ → List ℕ
held_after i fate.Delivered c held = held
held_after i (fate.Held j) c held = splice held (place_begins i j) c
held_after i fate.Dropped c held = held

-- a delivered wrapper: what is said of it, and its contents
pub record Delivered : Type 0 where
  pub delivery : Delivery
  pub contents : List ℕ

-- what is said of a wrapper that is delivered at once
abbrev pub itself : Arrived → Delivery
itself w = record { reliably = w.reliably; total = w.total; reliable = w.reliable; len = w.len }

-- and of one that a place held. Only reliable ones are held; the place, though free by then, still says its numbers and length
abbrev pub of_held : Place → Delivery
of_held p = record { reliably = true; total = p.total; reliable = p.reliable; len = p.len }

-- the wrapper itself, if it is delivered at once
abbrev pub at_once : Fate → Arrived → List ℕ → List Delivered
at_once fate.Delivered w c = record { delivery = itself w; contents = c } ∷ []
at_once (fate.Held j) w c = []
at_once fate.Dropped w c = []

-- the wrapper that place j of record i held
abbrev pub from_place : List ℕ → ℕ → ℕ → Place → Delivered
from_place held i j p = record { delivery = of_held p; contents = part held (place_begins i j) p.len }

-- the held ones of record i that step 4 delivers, in its order
abbrev pub from_places : List ℕ → ℕ → List Place → List ℕ → List Delivered
from_places held i ps order = map (λ j. from_place held i j (place_at ps j)) order

-- all that the step of record i by the wrapper w delivers. Held contents are read as step 3 left them, since step 4 comes after it
unfoldable pub delivered_by : List ℕ → ℕ → Arrived → List ℕ → Plan → List Delivered
delivered_by held i w c p =
    at_once p.fate w c ++ from_places (held_after i p.fate c held) i p.after.places (take p.count p.order)

-- ---- written into the rooms

-- deliveries from number k on, each into its cell of 1,454 octets
unfoldable pub deliver_from : ℕ → List Delivered → List ℕ → List ℕ
deliver_from k [] room = room
deliver_from k (d ∷ ds) room = deliver_from (k + 1) ds (splice room (k * most_contents) d.contents)

-- an answer with nothing delivered yet
abbrev pub no_deliveries : Deliveries
no_deliveries =
    record {
      each = replicate 5 (record { reliably = false; total = record { 0 = 0 }; reliable = record { 0 = 0 }; len = 0 });
      count = 0;
    }

-- an answer with one delivery more
abbrev pub one_more : Deliveries → Delivered → Deliveries
one_more a d = record { each = set a.each a.count d.delivery; count = a.count + 1 }

-- an answer with these deliveries more
unfoldable pub listed : Deliveries → List Delivered → Deliveries
listed a [] = a
listed a (d ∷ ds) = listed (one_more a d) ds
