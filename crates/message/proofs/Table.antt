-- A test at every number below a bound: antt computes it once, and it then serves at each of those numbers. Assumes nothing.
use Prim.Native.Nat.{ℕ, zero, suc, ◌<◌}
use native.Mathlib.Nat.{eq-or-lt_of_le, le_of_suc-le-suc, not-suc-le-zero}
use mathlib.Core.Path.{◌≡◌}
use mathlib.Core.Logic.{⊎_elim}
use mathlib.Core.Bool.{Bool, true, ◌&&◌, and-eq-true_iff}

abbrev pub below : (ℕ → Bool) → ℕ → Bool
below f zero = true
below f (suc n) = f n && below f n

pub at : (f : ℕ → Bool) (n : ℕ) → below f n ≡ true → (k : ℕ) → k < n → f k ≡ true
at f zero t k h = absurd (not-suc-le-zero h)
at f (suc n) t k h =
    let p = (and-eq-true_iff (f n) (below f n)).0 t in
    ⊎_elim (λ e. rw e p.0) (λ l. at f n p.1 k l) (eq-or-lt_of_le (le_of_suc-le-suc h))
