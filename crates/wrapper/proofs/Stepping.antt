-- Steps 3 and 4 of a wrapper let a record's terms stand. Assumes nothing.
use Prim.Native.Nat.{ℕ}
use mathlib.Core.Bool.{Bool, true, false, cond}
use mathlib.Core.Path.{◌≡◌, refl, ◌∙◌}
use Rattle.std.specs.Prelude.{Option, Some, None}
use Rattle.record.specs.With.{with_numbers}
use Rattle.record.specs.declared.Place.{Place}
use Rattle.record.specs.declared.Record.{Record}
use Rattle.wrapper.specs.Hold.{next_one, place_for, put_in, placed}
use Rattle.wrapper.specs.Release.{release_by, release_at, released}
use Rattle.wrapper.specs.declared.Arrived.{Arrived}
use Rattle.wrapper.specs.declared.Fate.TheVariants as fate
use Rattle.wrapper.specs.declared.Placed.{Placed}
use Rattle.wrapper.specs.declared.Released.{Released}
use Rattle.wrapper.proofs.Releasing.{held_at, passing, release_is, along}

pub placed_terms : (r : Record) (w : Arrived) → (placed r w).after.terms ≡ r.terms
unfolding placed
placed_terms r w = by (next_one r w) (place_for w r.places)
  where
    next : Placed
    next = record { after = with_numbers r w.total w.reliable; fate = fate.Delivered }

    by : (b : Bool) (f : Option ℕ) → (cond b next (put_in r w f)).after.terms ≡ r.terms
    by true f = refl
    by false (Some i) = refl
    by false None = refl

by_terms : (b : Bool) (s : Released) (i : ℕ) (p : Place) → (release_by b s i p).after.terms ≡ s.after.terms
by_terms true s i p = refl
by_terms false s i p = refl

release_terms : (s : Released) (i : ℕ) → (release_at s i).after.terms ≡ s.after.terms
release_terms s i = rw (release_is s i) (by_terms (passing s i) s i (held_at s i))

pub released_terms : (r : Record) → (released r).after.terms ≡ r.terms
unfolding released
released_terms r = along (λ s. s.after.terms ≡ r.terms) (λ s i e h. release_terms s i ∙ h) 4 _ refl
