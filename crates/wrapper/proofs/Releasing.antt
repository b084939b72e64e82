-- One release of step 4, and the releases one after the other. Assumes nothing.
use Prim.Native.Nat.{ℕ, zero, suc, ◌+◌, ◌-◌, ◌<◌, ◌≤◌}
use mathlib.Core.Bool.{Bool, true, false}
use mathlib.Core.Path.{◌≡◌, refl, sym, ◌∙◌}
use native.Mathlib.Omega.{arith}
use Rattle.std.specs.Prelude.{Option, Some, None, is_ok}
use Rattle.record.specs.Places.{place_at}
use Rattle.record.specs.declared.Place.{Place}
use Rattle.record.specs.declared.Record.{Record}
use Rattle.wrapper.specs.Judge.{judged}
use Rattle.wrapper.specs.Release.{next_held, release_by, release_at, or_stay, release_from, released}
use Rattle.wrapper.specs.declared.Released.{Released}

-- ---- one release

-- what place i holds
abbrev pub held_at : Released → ℕ → Place
held_at s i = place_at s.after.places i

-- whether it passes step 1 again
abbrev pub passing : Released → ℕ → Bool
passing s i = is_ok (judged s.after true (held_at s i).total (held_at s i).reliable)

pub release_is : (s : Released) (i : ℕ) → release_at s i ≡ release_by (passing s i) s i (held_at s i)
unfolding release_at
release_is s i = refl

-- a release is one delivery or one wrapper thrown out
by_counts : (b : Bool) (s : Released) (i : ℕ) (p : Place)
    → ((release_by b s i p).count ≤ s.count + 1) × ((release_by b s i p).thrown ≤ s.thrown + 1)
by_counts true s i p = (omega arith, omega arith)
by_counts false s i p = (omega arith, omega arith)

pub release_counts : (s t : Released) (i : ℕ) → t ≡ release_at s i → (t.count ≤ s.count + 1) × (t.thrown ≤ s.thrown + 1)
release_counts s t i e = rw (e, release_is s i) (by_counts (passing s i) s i (held_at s i))

-- ---- the releases

-- where none is next nothing more is released, however many turns are left
pub no_more : (n : ℕ) (s : Released) → next_held s.after.reliable s.after.places ≡ None → release_from n s ≡ s
unfolding release_from
no_more zero s e = refl
no_more (suc n) s e = rw e

pub one_more_lem : (n : ℕ) (s : Released) (i : ℕ) → next_held s.after.reliable s.after.places ≡ Some i
    → release_from (suc n) s ≡ release_from n (release_at s i)
unfolding release_from
one_more_lem n s i e = rw e

stay_or_go : (P : Released → Type 0) (s : Released) (go : ℕ → Released) (f : Option ℕ) → P s → ((i : ℕ) → f ≡ Some i → P (go i))
    → P (or_stay f s go)
stay_or_go P s go (Some i) p h = h i refl
stay_or_go P s go None p h = p

-- what each release keeps, all of them keep
pub along : (P : Released → Type 0)
    → ((s : Released) (i : ℕ) → next_held s.after.reliable s.after.places ≡ Some i → P s → P (release_at s i))
    → (n : ℕ) (s : Released) → P s → P (release_from n s)
unfolding release_from
along P keeps zero s p = p
along P keeps (suc n) s p =
    stay_or_go P s (λ i. release_from n (release_at s i)) (next_held s.after.reliable s.after.places) p
    (λ i e. along P keeps n (release_at s i) (keeps s i e p))

-- one turn spent on a release leaves the answer the same
pub turn_spent : (turns : ℕ) (s t : Released) (i : ℕ) (r : Record) → turns < 4 → next_held s.after.reliable s.after.places ≡ Some i
    → t ≡ release_at s i → release_from (4 - turns) s ≡ released r → release_from (4 - (turns + 1)) t ≡ released r
turn_spent turns s t i r h e f g =
    let more : 4 - turns ≡ suc (4 - (turns + 1)) = omega arith in
    (rw f (sym (one_more_lem (4 - (turns + 1)) s i e))) ∙ (rw more at g)

-- and with none left it is there
pub turns_spent : (turns : ℕ) (s : Released) (r : Record) → 4 ≤ turns → release_from (4 - turns) s ≡ released r → s ≡ released r
unfolding release_from
turns_spent turns s r h g =
    let none : 4 - turns ≡ 0 = omega arith in
    rw none at g
