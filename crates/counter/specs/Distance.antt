-- The distance from an old to a new number of a counter of 32 bits (01, "One channel"). The definitions are over plain numbers, so one
-- stands for both counters.
use Rattle.std.specs.Prelude.{◌≡◌, ℕ, ◌+◌, ◌-◌, ◌*◌, ◌%◌, cond, T, ℤ, pos, negsuc, ◌+ℤ◌, ◌-ℤ◌, int_le, nat_lt}

-- a full turn of a counter: 2^32 numbers
abbrev pub turn : ℕ
turn = 4294967296

-- how often one is added to `old`, turning past zero, to come to `new`: from 0 to 2^32 − 1
abbrev pub ahead : ℕ → ℕ → ℕ
ahead old new = (new + turn - old) % turn

-- half a turn: 2^31 numbers
abbrev pub half : ℕ
half = 2147483648

-- n numbers ahead as a signed number: less than half a turn is ahead, and from the half turn on it is behind
abbrev pub signed : ℕ → ℤ
signed n = cond (nat_lt n half) (pos n) (negsuc (4294967295 - n))

-- 01's distance, as the code computes it
unfoldable pub distance : ℕ → ℕ → ℤ
distance old new = signed (ahead old new)

-- 01's sentence on the distance, word by word: z lies from −2,147,483,648 to 2,147,483,647, and equals new − old modulo 2^32, that is
-- up to whole turns on either side. `distance` is proved to be the one such number (proofs/TheOne.antt)
pub record Distance (old new : ℕ) (z : ℤ) : Type 0 where
  pub low : T (int_le (negsuc 2147483647) z)
  pub high : T (int_le z (pos 2147483647))
  pub modulo : (j : ℕ) × (k : ℕ) × (z +ℤ pos (j * turn) ≡ (pos new -ℤ pos old) +ℤ pos (k * turn))
