-- Numbers near a number of a counter, all modulo 2^32.
use Rattle.std.specs.Prelude.{ℕ, ◌+◌, ◌-◌, ◌%◌}
use Rattle.counter.specs.Distance.{turn}

-- the number n before x (01, "One channel", step 6: reliable − threshold)
abbrev pub before : ℕ → ℕ → ℕ
before n x = (x + turn - n) % turn

-- R + 1, where a NAK begins (01, "One channel", elapsed)
abbrev pub next : ℕ → ℕ
next x = (x + 1) % turn

-- one before a number, where a NAK ends if a wrapper is held (01, "One channel", elapsed)
abbrev pub previous : ℕ → ℕ
previous x = before 1 x
