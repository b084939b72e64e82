-- A number that Table 6 does not have is no reason of a Leaving. Assumes nothing.
use Prim.Native.Nat.{ℕ, ◌<◌, ◌≤◌}
use mathlib.Core.Bool.{false}
use mathlib.Core.Logic.{◌⊎◌, inl, inr}
use mathlib.Core.Path.{◌≡◌}
use native.Mathlib.Omega.{arith}
use lib.Dec.{eqb, lit≤}
use borrow.Author.Tests.{ne_eqb}
use Rattle.record.specs.Reasons.{leaving_reason}

pub no_reason : (n : ℕ) → (n ≡ 0) ⊎ (11 < n) → false ≡ leaving_reason n
unfolding leaving_reason
no_reason n h =
    rw (other 1 (lit≤ tt) (lit≤ tt), other 6 (lit≤ tt) (lit≤ tt), other 7 (lit≤ tt) (lit≤ tt), other 8 (lit≤ tt) (lit≤ tt), other 9 (lit≤ tt) (lit≤ tt), other 10 (lit≤ tt) (lit≤ tt), other 11 (lit≤ tt) (lit≤ tt))
  where
    other : (k : ℕ) → 1 ≤ k → k ≤ 11 → eqb n k ≡ false
    other k a b = ne_eqb n k (λ e. elim h [ inl z ↦ omega arith | inr o ↦ omega arith ])
