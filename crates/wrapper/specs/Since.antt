-- What step 4 does to the places (01, "One channel"), said of the places before and after it and not of how it goes about it. That it does so is proved
-- (proofs/ReleaseIsDone.antt).
use Rattle.std.specs.Prelude.{ℕ, suc, ◌+◌, ◌<◌, true, cond, List, [], ◌∷◌, ◌≢◌, ◌⊎◌, ◌≡◌, length, get_or}
use Rattle.record.specs.Places.{place_at}
use Rattle.record.specs.With.{free_place}
use Rattle.record.specs.declared.Place.{Place}
use Rattle.record.specs.declared.Record.{Record}
use Rattle.wrapper.specs.declared.Released.{Released}

-- how many places are used
abbrev pub used_in : List Place → ℕ
used_in [] = 0
used_in (p ∷ ps) = cond p.used (suc (used_in ps)) (used_in ps)

-- a place that held p and was freed is q
abbrev pub Freed : Place → Place → Type 0
Freed p q = (p.used ≡ true) × (q ≡ free_place p)

-- what the releases up to s made of the places of r: each stands or was freed, those of the order were freed and are no place twice, and as many were
-- freed as were delivered or thrown out
pub record Since (r : Record) (s : Released) : Type 0 where
  pub places : length s.after.places ≡ length r.places
  pub room : length s.order ≡ 4
  pub each : (i : ℕ) → (place_at s.after.places i ≡ place_at r.places i) ⊎ Freed (place_at r.places i) (place_at s.after.places i)
  pub ordered : (k : ℕ) → k < s.count → Freed (place_at r.places (get_or s.order k 0)) (place_at s.after.places (get_or s.order k 0))
  pub once : (j k : ℕ) → j < k → k < s.count → get_or s.order j 0 ≢ get_or s.order k 0
  pub counted : used_in s.after.places + (s.count + s.thrown) ≡ used_in r.places
