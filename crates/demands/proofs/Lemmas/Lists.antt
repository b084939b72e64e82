-- Laws on lists that several theorems use: what holds of each element, and records that stand. Assumes nothing.
use Prim.Native.Nat.{ℕ, suc, ◌+◌, ◌*◌, ◌<◌}
use mathlib.Core.List.{List, [], ◌∷◌, ◌++◌, map}
use mathlib.Core.Path.{◌≡◌, refl, sym, ap, ◌∙◌}
use native.Mathlib.Omega.{arith}
use lib.ListN.{length, get_or}
use Rattle.octets.proofs.Writes.{splice_nothing}
use Rattle.record.specs.declared.Record.{Record}
use Rattle.gap.specs.Elapsed.{gives}
use Rattle.gap.specs.declared.Event.TheVariants as event
use Rattle.sending.specs.Sent.{event_of}
use Rattle.member.specs.Sizes.{cell_size}
use Rattle.member.specs.Elapsing.{cell_of, cells_from}
use Rattle.demands.specs.Runs.{Each, none, more}

-- ---- what holds of each element

pub each_to : {A : Type 0} {P Q : A → Type 0} (xs : List A) → ((x : A) → P x → Q x) → Each P xs → Each Q xs
each_to [] f none = none
each_to (x ∷ xs) f (more p ps) = more (f x p) (each_to xs f ps)

pub each_append : {A : Type 0} {P : A → Type 0} (xs ys : List A) → Each P xs → Each P ys → Each P (xs ++ ys)
each_append [] ys none qs = qs
each_append (x ∷ xs) ys (more p ps) qs = more p (each_append xs ys ps qs)

pub each_of : {A : Type 0} {P : A → Type 0} (f : ℕ → A) (xs : List ℕ) → ((k : ℕ) → k < length xs → P (f (get_or xs k 0))) → Each P (map f xs)
each_of f [] h = none
each_of f (x ∷ xs) h = more (h 0 (omega arith)) (each_of f xs (λ k l. h (suc k) (omega arith)))

-- ---- records that stand

-- records that stand make the table that was, and what they send leaves the cells
pub standing : (ts : List Record) → map (λ e. e.after) (map (λ r. gives r event.Nothing) ts) ≡ ts
standing [] = refl
standing (r ∷ ts) = ap (λ us. r ∷ us) (standing ts)

pub silent : (ts : List Record) (i : ℕ) (room : List ℕ) → cells_from i (map (λ r. gives r event.Nothing) ts) room ≡ room
unfolding cells_from event_of
silent [] i room = refl
silent (r ∷ ts) i room =
    ap (λ after. cells_from (i + 1) (map (λ r. gives r event.Nothing) ts) after) (sym (splice_nothing room (i * cell_size))) ∙ silent ts (i + 1) room

pub quiet_cells : (ts : List Record) → map cell_of (map (λ r. gives r event.Nothing) ts) ≡ map (λ r. record { event = event.Nothing; len = 0 }) ts
unfolding event_of
quiet_cells [] = refl
quiet_cells (r ∷ ts) = ap (λ cs. record { event = event.Nothing; len = 0 } ∷ cs) (quiet_cells ts)
