-- What deliveries leave in the room: each in its cell, and every octet that no delivery covers as it was. Assumes nothing.
use Prim.Native.Nat.{ℕ, zero, suc, ◌+◌, ◌*◌, ◌<◌, ◌≤◌}
use mathlib.Core.List.{List, [], ◌∷◌}
use mathlib.Core.Logic.{◌⊎◌, inl, inr}
use mathlib.Core.Path.{◌≡◌, refl, ◌∙◌}
use native.Mathlib.Omega.{arith}
use lib.ListN.{length, get_or}
use Rattle.octets.specs.Octets.{part, splice}
use Rattle.octets.proofs.Writes.{length_splice, part_splice}
use Rattle.record.specs.WellFormed.{most_contents}
use Rattle.carry.specs.Carried.{Delivered, deliver_from}
use Rattle.carry.specs.Whole.{Each, Whole}
use Rattle.carry.proofs.Beside.{part_beside, octet_beside}

-- where the cell of delivery k begins
abbrev pub cell_at : ℕ → ℕ
cell_at k = k * most_contents

-- the first delivery is within the room, and the rest find as much room as before
first_inside : (k : ℕ) (d : Delivered) (ds : List Delivered) (room : List ℕ) → Whole d → cell_at (k + suc (length ds)) ≤ length room
    → (cell_at k + length d.contents ≤ length room)
    × (length (splice room (cell_at k) d.contents) ≡ length room)
    × (cell_at (k + 1 + length ds) ≤ length (splice room (cell_at k) d.contents))
first_inside k d ds room h l =
    let inside : cell_at k + length d.contents ≤ length room = omega arith in
    let same = length_splice room (cell_at k) d.contents inside in
    (inside, same, omega arith)

pub deliver_length : (k : ℕ) (ds : List Delivered) (room : List ℕ) → Each Whole ds → cell_at (k + length ds) ≤ length room
    → length (deliver_from k ds room) ≡ length room
unfolding deliver_from
deliver_length k [] room h l = refl
deliver_length k (d ∷ ds) room h l =
    let f = first_inside k d ds room h.0 l in
    deliver_length (k + 1) ds _ h.1 f.2 ∙ f.1

-- a part that no delivery covers stays
pub deliver_beside : (k : ℕ) (ds : List Delivered) (room : List ℕ) → Each Whole ds → cell_at (k + length ds) ≤ length room → (z : Delivered)
    (from n : ℕ)
    → ((m : ℕ) → m < length ds → (from + n ≤ cell_at (k + m)) ⊎ (cell_at (k + m) + length (get_or ds m z).contents ≤ from))
    → part (deliver_from k ds room) from n ≡ part room from n
unfolding deliver_from
deliver_beside k [] room h l z from n clear = refl
deliver_beside k (d ∷ ds) room h l z from n clear =
    let f = first_inside k d ds room h.0 l in
    let zeroth : k + 0 ≡ k = omega arith in
    deliver_beside (k + 1) ds _ h.1 f.2 z from n
    (λ m g.
    let same : k + suc m ≡ k + 1 + m = omega arith in
    rw same at (clear (suc m) (omega arith)))
    ∙ part_beside room (cell_at k) d.contents f.0 from n (rw zeroth at (clear 0 (omega arith)))

-- an octet that no delivery covers stays
pub deliver_past : (k : ℕ) (ds : List Delivered) (room : List ℕ) → Each Whole ds → cell_at (k + length ds) ≤ length room → (z : Delivered) (o : ℕ)
    → ((m : ℕ) → m < length ds → (o < cell_at (k + m)) ⊎ (cell_at (k + m) + length (get_or ds m z).contents ≤ o))
    → get_or (deliver_from k ds room) o 0 ≡ get_or room o 0
deliver_past k ds room h l z o clear =
    octet_beside (deliver_from k ds room) room o (deliver_beside k ds room h l z o 1 (λ m g. by (clear m g)))
  where
    by : {a b : ℕ} → (o < a) ⊎ (b ≤ o) → (o + 1 ≤ a) ⊎ (b ≤ o)
    by (inl g) = inl (omega arith)
    by (inr g) = inr g

-- each delivery is in its cell
pub deliver_cell : (k : ℕ) (ds : List Delivered) (room : List ℕ) → Each Whole ds → cell_at (k + length ds) ≤ length room → (z : Delivered) (m : ℕ)
    → m < length ds → part (deliver_from k ds room) (cell_at (k + m)) (get_or ds m z).delivery.len ≡ (get_or ds m z).contents
unfolding deliver_from
deliver_cell k [] room h l z m g = absurd (omega arith)
deliver_cell k (d ∷ ds) room h l z zero g =
    let f = first_inside k d ds room h.0 l in
    let zeroth : k + 0 ≡ k = omega arith in
    rw (zeroth, ← h.0.0)
    (deliver_beside (k + 1) ds _ h.1 f.2 z (cell_at k) (length d.contents) (λ m q. inl (omega arith))
    ∙ part_splice room (cell_at k) d.contents (omega (arith, f.0)))
deliver_cell k (d ∷ ds) room h l z (suc m) g =
    let f = first_inside k d ds room h.0 l in
    let same : k + suc m ≡ k + 1 + m = omega arith in
    rw same (deliver_cell (k + 1) ds _ h.1 f.2 z m (omega arith))
