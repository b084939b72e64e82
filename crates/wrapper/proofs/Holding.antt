-- The machine's test for the number that is due, by its bits, and `is` of specs/. Assumes nothing.
use Prim.Native.Nat.{ℕ, ◌<◌}
use mathlib.Core.Path.{◌≡◌, refl}
use native.Mathlib.Omega.{arith}
use lib.Dec.{eqb}
use lib.IntN.{ℤ, pos, negsuc}
use mir.Syntax.{w32}
use mir.Val.{of_z, SFits}
use borrow.Author.Tests.{ne_eqb}
use Rattle.wrapper.specs.Hold.{is}

-- bits that are those of n are the number n
pub bits_are : (n : ℕ) (z : ℤ) → n < 2147483648 → SFits w32 z → eqb (of_z w32 z) n ≡ is n z
bits_are n (pos m) h f = refl
bits_are n (negsuc m) h f = let g : m < 2147483648 = f.sfits in ne_eqb (of_z w32 (negsuc m)) n (λ e. omega arith)
