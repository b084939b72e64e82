-- What lies beside octets that are written stays, octet by octet and part by part. Assumes nothing.
use Prim.Native.Nat.{ℕ, ◌+◌, ◌-◌, ◌≤◌}
use mathlib.Core.List.{List, ◌++◌, append_assoc}
use mathlib.Core.Logic.{◌⊎◌, inl, inr}
use mathlib.Core.Path.{◌≡◌, sym, ap, ◌∙◌}
use native.Mathlib.Nat.{add-zero}
use native.Mathlib.Omega.{arith}
use lib.Dec.{lit<}
use lib.ListN.{length, get_or, take, drop, length-append, length-drop, take-append-drop}
use lib.Seq.{length-take-le, take-append-le, drop-append-le, drop-append-add, drop-drop, get_or-take, get_or-drop}
use Rattle.octets.specs.Octets.{part, splice}

-- a part of what stands in front
part_front : (xs ys : List ℕ) (from n : ℕ) → from + n ≤ length xs → part (xs ++ ys) from n ≡ part xs from n
part_front xs ys from n h =
    let l : from ≤ length xs = omega arith in
    let m : n ≤ length (drop from xs) = omega (arith, length-drop from xs) in
    rw (drop-append-le from xs ys l, take-append-le n (drop from xs) ys m)

module _ (s : List ℕ) (at : ℕ) (ys : List ℕ) (h : at + length ys ≤ length s) where
  part_before : (from n : ℕ) → from + n ≤ at → part (splice s at ys) from n ≡ part s from n
  unfolding splice
  part_before from n l =
      let m : length (take at s) ≡ at = length-take-le at s (omega arith) in
      let inside : from + n ≤ length (take at s) = omega arith in
      rw (append_assoc (take at s) ys (drop (at + length ys) s), part_front (take at s) (ys ++ drop (at + length ys) s) from n inside)
      (sym (part_front (take at s) (drop at s) from n inside) ∙ ap (λ (l : List ℕ). part l from n) (take-append-drop at s))

  part_behind : (from n : ℕ) → at + length ys ≤ from → part (splice s at ys) from n ≡ part s from n
  unfolding splice
  part_behind from n l =
      let p : List ℕ = take at s ++ ys in
      let m : length p ≡ at + length ys = length-append (take at s) ys ∙ omega (arith, length-take-le at s (omega arith)) in
      let e : from ≡ length p + (from - (at + length ys)) = omega arith in
      let f : at + length ys + (from - (at + length ys)) ≡ from = omega arith in
      ap (take n)
      (ap (λ (k : ℕ). drop k (p ++ drop (at + length ys) s)) e
      ∙ drop-append-add p (drop (at + length ys) s) (from - (at + length ys))
      ∙ drop-drop (from - (at + length ys)) (at + length ys) s
      ∙ ap (λ (k : ℕ). drop k s) f)

  pub part_beside : (from n : ℕ) → (from + n ≤ at) ⊎ (at + length ys ≤ from) → part (splice s at ys) from n ≡ part s from n
  part_beside from n (inl l) = part_before from n l
  part_beside from n (inr l) = part_behind from n l

-- an octet is a part of one
octet_part : (s : List ℕ) (k : ℕ) → get_or s k 0 ≡ get_or (part s k 1) 0 0
octet_part s k = sym (get_or-take 1 (drop k s) 0 0 (lit< tt) ∙ get_or-drop k s 0 0 ∙ ap (λ (n : ℕ). get_or s n 0) (add-zero k))

-- octets whose parts of one agree are the same
pub octet_beside : (s t : List ℕ) (k : ℕ) → part s k 1 ≡ part t k 1 → get_or s k 0 ≡ get_or t k 0
octet_beside s t k e = octet_part s k ∙ ap (λ (l : List ℕ). get_or l 0 0) e ∙ sym (octet_part t k)
