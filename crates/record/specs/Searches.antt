-- What a closure that is passed to a search computes, and what it is for a list that any two of its elements are apart.
use Prim.{Unit}
use Rattle.std.specs.Prelude.{Bool, true, ◌&&◌, List, [], ◌∷◌, ◌≡◌}
use Rattle.std.specs.Fn.{Shared, FnReturnsAt, FnReturnsAtPair}
use Rattle.std.specs.List.{list_all}
use denote.Ref.{Bor}

-- at each element the closure answers what `test` says of it
abbrev pub Tests : {F T : Type 0} → Shared F (Bor T × Unit {0}) Bool → F → (T → Bool) → Type 0
Tests {F} {T} g f test = (x : T) (answer : Bool) → FnReturnsAt g f x answer → answer ≡ test x

-- and at each two elements what `test` says of them
abbrev pub TestsPairs : {F T : Type 0} → Shared F (Bor T × (Bor T × Unit {0})) Bool → F → (T → T → Bool) → Type 0
TestsPairs {F} {T} g f test = (x y : T) (answer : Bool) → FnReturnsAtPair g f x y answer → answer ≡ test x y

-- `test` passes of each element and each later one
unfoldable pub all_apart : {T : Type 0} → (T → T → Bool) → List T → Bool
all_apart test [] = true
all_apart test (x ∷ xs) = list_all (test x) xs && all_apart test xs
