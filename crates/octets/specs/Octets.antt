-- Numbers as octets, big-endian (01, "Blocks and layouts"), and what a write into lent octets leaves (01, "Room").
use Rattle.std.specs.Prelude.{ℕ, zero, suc, ◌+◌, ◌*◌, ◌^◌, ◌/◌, ◌%◌, ◌<◌, List, [], ◌∷◌, ◌++◌, length, get_or, take, drop}

-- in the definitions octets are a list of numbers: this says that each of them is one, a number below 256. Past the end a list reads as 0
unfoldable pub Octets : List ℕ → Type 0
Octets s = (i : ℕ) → get_or s i 0 < 256

-- the number that octets spell: the first counts most
unfoldable pub number : List ℕ → ℕ
number [] = 0
number (o ∷ os) = o * 256 ^ length os + number os

-- the number x as n octets; what does not fit in n octets is cut off above
unfoldable pub octets : ℕ → ℕ → List ℕ
octets zero x = []
octets (suc n) x = (x / 256 ^ n % 256) ∷ octets n x

-- the n octets of s from `at` on
abbrev pub part : List ℕ → ℕ → ℕ → List ℕ
part s at n = take n (drop at s)

-- the number that these n octets spell
abbrev pub number_at : List ℕ → ℕ → ℕ → ℕ
number_at s at n = number (part s at n)

-- s with ys written over its octets from `at` on; all others stay
unfoldable pub splice : List ℕ → ℕ → List ℕ → List ℕ
splice s at ys = take at s ++ ys ++ drop (at + length ys) s

-- pieces of octets one after the other: a layout is the list of its fields
abbrev pub joined : List (List ℕ) → List ℕ
joined [] = []
joined (p ∷ ps) = p ++ joined ps
