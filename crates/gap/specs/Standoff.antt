-- The standoff before a NAK (01, "One channel").
use Rattle.std.specs.Prelude.{ℕ, ◌+◌, ◌*◌, ◌%◌, min}
use Rattle.record.specs.declared.Record.{Record}

-- (R + MID) modulo the modulus, times holdoff, and at most maxwait. R + MID is a plain sum: it does not turn past 2^32
unfoldable pub standoff : ℕ → ℕ → ℕ → ℕ → ℕ → ℕ
standoff r mid modulus holdoff maxwait = min maxwait ((r + mid) % modulus * holdoff)

unfoldable pub standoff_of : Record → ℕ
standoff_of r = standoff r.reliable.0 r.terms.mid r.terms.modulus r.terms.holdoff r.terms.maxwait
