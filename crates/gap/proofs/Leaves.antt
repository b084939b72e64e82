-- What the standoff's product comes to: a product of two numbers of 16 bits, of which the first is a remainder, is far from the end of 64
-- bits. Assumes nothing.
use Prim.Native.Nat.{ℕ, ◌*◌, ◌%◌, ◌<◌, ◌≤◌}
use native.Mathlib.Nat.{mod-lt, mul-le-mul}
use native.Mathlib.Omega.{arith}
use mir.Syntax.{w64}
use mir.Val.{Fits}

pub remainder_fits : (s m h : ℕ) → 0 < m → m < 65536 → h < 65536 → Fits w64 (s % m * h)
remainder_fits s m h p q o =
    let a : s % m < m = mod-lt s p in
    let b : s % m * h ≤ 65535 * 65535 = mul-le-mul {n₂ = 65535} {m₂ = 65535} (omega arith) (omega arith) in
    record { fits = omega arith }
