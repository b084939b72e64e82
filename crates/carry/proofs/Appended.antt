-- Deliveries behind others: what an answer lists and what the room holds with `xs ++ ys` is that with ys after xs, and the count grows by
-- one with each. Assumes nothing.
use Prim.Native.Nat.{ℕ, ◌+◌}
use mathlib.Core.List.{List, [], ◌∷◌, ◌++◌}
use mathlib.Core.Path.{◌≡◌, refl, ap, ◌∙◌}
use native.Mathlib.Omega.{arith}
use lib.ListN.{length}
use Rattle.carry.specs.Carried.{Delivered, deliver_from, one_more, listed}
use Rattle.carry.specs.declared.Deliveries.{Deliveries}

pub listed_append : (a : Deliveries) (xs ys : List Delivered) → listed a (xs ++ ys) ≡ listed (listed a xs) ys
unfolding listed
listed_append a [] ys = refl
listed_append a (x ∷ xs) ys = listed_append (one_more a x) xs ys

pub listed_count : (a : Deliveries) (xs : List Delivered) → (listed a xs).count ≡ a.count + length xs
unfolding listed
listed_count a [] = omega arith
listed_count a (x ∷ xs) = omega (arith, listed_count (one_more a x) xs)

pub deliver_append : (k : ℕ) (xs ys : List Delivered) (room : List ℕ)
    → deliver_from k (xs ++ ys) room ≡ deliver_from (k + length xs) ys (deliver_from k xs room)
unfolding deliver_from
deliver_append k [] ys room = ap (λ (n : ℕ). deliver_from n ys room) (omega arith)
deliver_append k (x ∷ xs) ys room =
    deliver_append (k + 1) xs ys _ ∙ ap (λ (n : ℕ). deliver_from n ys (deliver_from k (x ∷ xs) room)) (omega arith)
