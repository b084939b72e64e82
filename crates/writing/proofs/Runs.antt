-- What a run of writes leaves that puts each piece right behind the one before: one `splice` of the pieces joined. Assumes nothing.
use mathlib.Core.Path.{◌≡◌, refl, ◌∙◌}
use Prim.Native.Nat.{ℕ, ◌+◌, ◌≤◌}
use native.Mathlib.Omega.{arith}
use mathlib.Core.List.{List, [], ◌∷◌, ◌++◌}
use lib.ListN.{length, length-append}
use Rattle.octets.specs.Octets.{octets, splice, joined}
use Rattle.octets.proofs.Numbers.{length_octets}
use Rattle.octets.proofs.Writes.{length_splice, splice_nothing, splice_splice}

-- xs written over the octets of s from `at` on: t is what s is then, and `behind` the place behind them
abbrev pub Puts : List ℕ → ℕ → List ℕ → List ℕ → ℕ → Type 0
Puts s at xs t behind = (t ≡ splice s at xs) × (behind ≡ at + length xs)

-- s with the pieces ps written from `at` on, one after the other, is u, and they end at `behind`; what each call ensures is one step, in the
-- order of the calls
infixr 4 ◌then◌
pub data Run : List ℕ → ℕ → List (List ℕ) → List ℕ → ℕ → Type 0 where
  done : {s : List ℕ} {at : ℕ} → Run s at [] s at
  ◌then◌ : {s t u p : List ℕ} {at next behind : ℕ} {ps : List (List ℕ)} → Puts s at p t next → Run t next ps u behind → Run s at (p ∷ ps) u behind

in_turn : {s u : List ℕ} {at behind : ℕ} {ps : List (List ℕ)} → Run s at ps u behind → at + length (joined ps) ≤ length s → Puts s at (joined ps) u behind
in_turn {s = s} {at = at} done h = (splice_nothing s at, omega arith)
in_turn {s = s} {at = at} (◌then◌ {t = t} {p = p} {next = next} {ps = ps} e r) h =
    let l : length (p ++ joined ps) ≡ length p + length (joined ps) = length-append p (joined ps) in
    let k : length (splice s at p) ≡ length s = length_splice s at p (omega arith) in
    let w = in_turn r (rw (e.0, e.1) (omega arith)) in
    (w.0 ∙ rw (e.0, e.1) (splice_splice s at (length p) p (joined ps) refl (omega arith)), omega (arith, w.1, e.1))

pub written : {s u xs : List ℕ} {at behind : ℕ} {ps : List (List ℕ)} → Run s at ps u behind → joined ps ≡ xs → at + length xs ≤ length s
    → Puts s at xs u behind
written {s = s} {u = u} {at = at} {behind = behind} r e h = rw e at (in_turn r (rw e h))

-- a piece of k octets, and a number of n behind it
pub number_behind : (s t u p : List ℕ) (at k n x next behind : ℕ) → length p ≡ k
    → (t ≡ splice s at p) × (next ≡ at + k) → (u ≡ splice t next (octets n x)) × (behind ≡ next + n) → at + k + n ≤ length s
    → (u ≡ splice s at (joined (p ∷ octets n x ∷ []))) × (behind ≡ at + k + n)
number_behind s t u p at k n x next behind l e f h =
    let o = length_octets n x in
    let j = length-append p (octets n x ++ []) in
    let i = length-append (octets n x) [] in
    let w : Puts s at (joined (p ∷ octets n x ∷ [])) u behind = in_turn ((e.0, omega (arith, e.1)) then (f.0, omega (arith, f.1)) then done) (omega arith) in
    (w.0, omega (arith, e.1, f.1))
