-- Laws of lists that the calls over a table use: a loop that moves every element of a list by itself, and octets put into a part of a room.
-- Assumes nothing.
use Prim.Native.Nat.{ℕ, ◌+◌, ◌-◌, ◌<◌, ◌≤◌}
use mathlib.Core.List.{List, ◌++◌, append-nil, append_assoc}
use mathlib.Core.Path.{◌≡◌, sym, ap, ◌∙◌}
use native.Mathlib.Nat.{zero-add}
use native.Mathlib.Numerals.{add-one}
use native.Mathlib.Omega.{arith}
use lib.ListN.{length, get_or, set, take, drop, length-drop, take-append-drop, drop_of_length-le}
use lib.Seq.{take_all, length-take-le, drop-append-le, drop-drop, get_or-drop, paste, paste-zero, paste-suc, drop-paste}
use Rattle.octets.specs.Octets.{splice}

-- ---- elements replaced one after the other

-- the first i elements of xs, then those of the old list
abbrev pub over {ℓ} : {A : Type ℓ} → List A → List A → ℕ → List A
over old xs i = paste old 0 xs i

module _ {ℓ} {A : Type ℓ} (old xs : List A) where
  pub over_none : old ≡ over old xs 0
  over_none = paste-zero old 0 xs

  pub over_all : (i : ℕ) → length old ≤ i → length xs ≤ i → over old xs i ≡ xs
  over_all i h k =
      let none : length old ≤ 0 + i = omega arith in
      rw (take_all i xs k, drop_of_length-le old none) (append-nil xs)

  module _ (i : ℕ) (d : A) (h : i < length old) (k : i < length xs) where
    -- what is not replaced yet
    pub over_here : get_or (over old xs i) i d ≡ get_or old i d
    over_here =
        let same : drop (0 + i) (over old xs i) ≡ drop (0 + i) old = drop-paste old 0 xs i (omega arith) (omega arith) in
        let e : 0 + i + 0 ≡ i = omega arith in
        ap (λ (j : ℕ). get_or (over old xs i) j d) (sym e)
        ∙ sym (get_or-drop (0 + i) (over old xs i) 0 d)
        ∙ ap (λ (l : List A). get_or l 0 d) same
        ∙ get_or-drop (0 + i) old 0 d
        ∙ ap (λ (j : ℕ). get_or old j d) e

    pub over_more : set (over old xs i) i (get_or xs i d) ≡ over old xs (i + 1)
    over_more =
        let e : 0 + i ≡ i = omega arith in
        ap (λ (j : ℕ). set (over old xs i) j (get_or xs i d)) (sym e)
        ∙ paste-suc old 0 xs i d (omega arith) k
        ∙ ap (over old xs) (sym (add-one i))

-- ---- octets put into a part of a room

-- octets zs put at the front of the part of s from a up to e, and that put back
pub into_part : (s zs : List ℕ) (a e : ℕ) → a + length zs ≤ e → e ≤ length s
    → take a s ++ (splice (take (e - a) (drop a s)) 0 zs ++ drop (e - a) (drop a s)) ≡ splice s a zs
unfolding splice
into_part s zs a e h k =
    let p : List ℕ = drop a s in
    let m : length zs ≤ length (take (e - a) p) = omega (arith, length-drop a s, length-take-le (e - a) p (omega (arith, length-drop a s))) in
    let joined : drop (length zs) (take (e - a) p) ++ drop (e - a) p ≡ drop (length zs) p =
    sym (drop-append-le (length zs) (take (e - a) p) (drop (e - a) p) m) ∙ ap (drop (length zs)) (take-append-drop (e - a) p) in
    rw (zero-add, append_assoc zs (drop (length zs) (take (e - a) p)) (drop (e - a) p), joined, drop-drop)
    (sym (append_assoc (take a s) zs (drop (a + length zs) s)))
