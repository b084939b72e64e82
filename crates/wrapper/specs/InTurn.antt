-- What it means that a step delivers in turn (01, "One channel", steps 3 and 4), said of what is delivered and not of how it is found. That every step does
-- is proved (proofs/InTurn.antt).
use Rattle.std.specs.Prelude.{ℕ, Bool, true, cond, List, [], ◌∷◌, ◌++◌, map, ◌≡◌, pos, take}
use Rattle.std.specs.Int.Signed.{le_z}
use Rattle.counter.specs.Distance.{distance}
use Rattle.counter.specs.declared.Total.{Total}
use Rattle.counter.specs.declared.Reliable.{Reliable}
use Rattle.record.specs.Places.{place_at}
use Rattle.record.specs.declared.Place.{Place}
use Rattle.record.specs.declared.Record.{Record}
use Rattle.wrapper.specs.Judge.{heard}
use Rattle.wrapper.specs.Hold.{placed}
use Rattle.wrapper.specs.Taken.{taken}
use Rattle.wrapper.specs.declared.Arrived.{Arrived}
use Rattle.wrapper.specs.declared.Fate.{Fate}
use Rattle.wrapper.specs.declared.Fate.TheVariants as fate

-- a delivered wrapper by its numbers
pub record Delivery : Type 0 where
  pub reliably : Bool
  pub total : Total
  pub reliable : Reliable

-- the wrapper itself, if it is delivered
abbrev pub itself : Fate → Arrived → List Delivery
itself fate.Delivered w = record { reliably = w.reliably; total = w.total; reliable = w.reliable } ∷ []
itself (fate.Held i) w = []
itself fate.Dropped w = []

-- what a place holds, which is a reliable one
abbrev pub held_in : List Place → ℕ → Delivery
held_in ps i = record { reliably = true; total = (place_at ps i).total; reliable = (place_at ps i).reliable }

-- all that a step delivers, in its order: held ones are in the places that step 3 leaves
abbrev pub deliveries : Record → Arrived → List Delivery
deliveries r w =
    itself (taken r w).fate w
    ++ map (held_in (placed (heard r w.reliable) w).after.places) (take (taken r w).count (taken r w).order)

-- from T = t and R = n the deliveries come in turn, and leave T = u and R = m: each reliable one is at distance 1 from R as it is then and an unreliable one
-- at distance 0, and each total number is at distance 1 or more from T as it is then
abbrev pub InTurnTo : Total → Reliable → List Delivery → Total → Reliable → Type 0
InTurnTo t n [] u m = (t ≡ u) × (n ≡ m)
InTurnTo t n (d ∷ ds) u m =
    (distance n.0 d.reliable.0 ≡ pos (cond d.reliably 1 0))
    × (le_z (pos 1) (distance t.0 d.total.0) ≡ true)
    × InTurnTo d.total d.reliable ds u m
