-- Deliveries that fit their cells (01, "Room"): the contents are as long as the delivery says, and not longer than a cell. That all that a step delivers is so is proved
-- (proofs/DeliveredLength.antt).
use Prim.{Unit}
use Rattle.std.specs.Prelude.{◌≤◌, List, [], ◌∷◌, ◌≡◌, length}
use Rattle.record.specs.WellFormed.{most_contents}
use Rattle.carry.specs.Carried.{Delivered}

-- P holds of each element of a list
abbrev pub Each : {A : Type 0} (P : A → Type 0) → List A → Type 0
Each P [] = Unit {0}
Each P (x ∷ xs) = P x × Each P xs

-- contents as long as is said, that fit a cell
abbrev pub Whole : Delivered → Type 0
Whole d = (length d.contents ≡ d.delivery.len) × (d.delivery.len ≤ most_contents)
