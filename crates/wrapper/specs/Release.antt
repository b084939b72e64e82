-- Step 4 of a wrapper (01, "One channel"): held ones that are next are released.
use Rattle.std.specs.Prelude.{ℕ, zero, suc, ◌+◌, Bool, true, false, ◌&&◌, List, [], ◌∷◌, set, position, Option, Some, None, is_ok}
use Rattle.counter.specs.Distance.{distance}
use Rattle.counter.specs.declared.Reliable.{Reliable}
use Rattle.record.specs.Places.{place_at}
use Rattle.record.specs.With.{with_numbers, with_places, free_place}
use Rattle.record.specs.declared.Place.{Place}
use Rattle.record.specs.declared.Record.{Record}
use Rattle.wrapper.specs.Judge.{judged}
use Rattle.wrapper.specs.Hold.{is}
use Rattle.wrapper.specs.declared.Released.{Released}

-- a held one that has distance 1 from R
abbrev pub is_next : Reliable → Place → Bool
is_next r p = p.used && is 1 (distance r.0 p.reliable.0)

-- the lowest place of such a one
unfoldable pub next_held : Reliable → List Place → Option ℕ
next_held r ps = position (is_next r) ps

-- the record with place i free
abbrev pub without : Record → ℕ → Place → Record
without r i p = with_places r (set r.places i (free_place p))

-- one that step 1 lets pass is delivered: its place comes next in the order, and T and R become its numbers. Another is thrown out. Either way its place is free
abbrev pub release_by : Bool → Released → ℕ → Place → Released
release_by true s i p =
    record {
      after = with_numbers (without s.after i p) p.total p.reliable;
      order = set s.order s.count i;
      count = s.count + 1;
      thrown = s.thrown;
    }
release_by false s i p =
    record { after = without s.after i p; order = s.order; count = s.count; thrown = s.thrown + 1 }

unfoldable pub release_at : Released → ℕ → Released
release_at s i =
    release_by (is_ok (judged s.after true (place_at s.after.places i).total (place_at s.after.places i).reliable))
    s i (place_at s.after.places i)

-- go on with a place that was found, or stop
abbrev pub or_stay : Option ℕ → Released → (ℕ → Released) → Released
or_stay (Some i) s go = go i
or_stay None s go = s

-- the releases one after the other. Each frees a place, so as many turns as there are places are enough (proofs/ReleaseIsDone.antt)
unfoldable pub release_from : ℕ → Released → Released
release_from zero s = s
release_from (suc n) s =
    or_stay (next_held s.after.reliable s.after.places) s (λ i. release_from n (release_at s i))

-- step 4. `order` is as long as there are places, and its first `count` are the places delivered
unfoldable pub released : Record → Released
released r = release_from 4 (record { after = r; order = 0 ∷ 0 ∷ 0 ∷ 0 ∷ []; count = 0; thrown = 0 })
