-- Laws on truth values and choices that the proofs of this and other crates share. Assumes nothing.
use Prim.Native.Nat.{ℕ}
use mathlib.Core.Bool.{Bool, true, false, cond, ◌&&◌, and-eq-true_iff}
use mathlib.Core.Path.{◌≡◌, refl}
use native.Mathlib.Omega.{arith}

-- what is true of two tests together, of each
pub both : (a b : Bool) → a && b ≡ true → (a ≡ true) × (b ≡ true)
both a b = (and-eq-true_iff a b).0

-- and back
pub and : (a b : Bool) → a ≡ true → b ≡ true → a && b ≡ true
and a b e f = (and-eq-true_iff a b).1 (e, f)

-- what holds of each side of a choice in the case that chooses it holds of the choice
pub each_case : {A : Type 0} (P : A → Type 0) (b : Bool) (x y : A) → (b ≡ true → P x) → (b ≡ false → P y) → P (cond b x y)
each_case P true x y p q = p refl
each_case P false x y p q = q refl

-- and so does what holds of either side
pub either : {A : Type 0} (P : A → Type 0) (b : Bool) (x y : A) → P x → P y → P (cond b x y)
either P b x y p q = each_case P b x y (λ e. p) (λ e. q)

-- from two constructors that would be equal `cc` has 0 ≡ 1, and from that anything follows
pub never : {A : Type 0} → ◌≡◌ {A = ℕ} 0 1 → A
never e = absurd (omega arith)
