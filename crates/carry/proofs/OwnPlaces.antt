-- A wrapper that is held changes the octets of one place of its record and no others, so that whatever else is held stays. Assumes nothing.
use Prim.Native.Nat.{ℕ, ◌+◌, ◌*◌, ◌<◌, ◌≤◌}
use mathlib.Core.Bool.{Bool, true, false}
use mathlib.Core.List.{List}
use mathlib.Core.Logic.{◌≢◌, ◌⊎◌, inl, inr}
use mathlib.Core.Path.{◌≡◌, refl}
use native.Mathlib.Omega.{arith}
use lib.Dec.{ltb}
use lib.ListN.{length, get_or}
use borrow.Author.Tests.{ltb-true, ltb-false}
use Rattle.octets.specs.Octets.{part}
use Rattle.octets.proofs.Writes.{length_splice}
use Rattle.record.specs.WellFormed.{most_contents}
use Rattle.wrapper.specs.declared.Fate.{Fate}
use Rattle.wrapper.specs.declared.Fate.TheVariants.{Delivered, Held, Dropped}
use Rattle.carry.specs.Carried.{place_begins, held_after}
use Rattle.carry.proofs.Beside.{part_beside, octet_beside}
use Rattle.carry.proofs.Carrying.{place_ends}

-- two cells of 1,454 octets, one of them whole in front of the other
cells_apart : (a b n m : ℕ) → a ≢ b → n ≤ most_contents → m ≤ most_contents
    → (a * most_contents + n ≤ b * most_contents) ⊎ (b * most_contents + m ≤ a * most_contents)
cells_apart a b n m z hn hm = by (ltb a b) refl
  where
    by : (t : Bool) → ltb a b ≡ t → (a * most_contents + n ≤ b * most_contents) ⊎ (b * most_contents + m ≤ a * most_contents)
    by true e = inl (omega (arith, ltb-true a b e))
    by false e =
        let l : b ≤ a = ltb-false a b e in
        inr (omega arith)

module _
    (i : ℕ)
    (f : Fate)
    (c held : List ℕ)
    (hi : i < 8)
    (place : (j : ℕ) → f ≡ Held j → j < 4)
    (fits : length c ≤ most_contents)
    (room : length held ≡ 46528)
  where
    inside : (j : ℕ) → f ≡ Held j → place_begins i j + length c ≤ length held
    inside j e = omega (arith, place_ends i j (length c) hi (place j e) fits)

    -- the octets are as many as they were
    pub held_length : length (held_after i f c held) ≡ length held
    held_length = by f refl
      where
        by : (g : Fate) → f ≡ g → length (held_after i g c held) ≡ length held
        by Delivered e = refl
        by (Held j) e = length_splice held (place_begins i j) c (inside j e)
        by Dropped e = refl

    -- a part stays that does not meet the place that the wrapper is held in
    pub held_beside : (from n : ℕ) → ((j : ℕ) → f ≡ Held j → (from + n ≤ place_begins i j) ⊎ (place_begins i j + length c ≤ from))
        → part (held_after i f c held) from n ≡ part held from n
    held_beside from n clear = by f refl
      where
        by : (g : Fate) → f ≡ g → part (held_after i g c held) from n ≡ part held from n
        by Delivered e = refl
        by (Held j) e = part_beside held (place_begins i j) c (inside j e) from n (clear j e)
        by Dropped e = refl

    -- another place stays
    pub other_place : (i' j' n : ℕ) → n ≤ most_contents → ((j : ℕ) → f ≡ Held j → i' * 4 + j' ≢ i * 4 + j)
        → part (held_after i f c held) (place_begins i' j') n ≡ part held (place_begins i' j') n
    unfolding place_begins
    other_place i' j' n hn z =
        held_beside (place_begins i' j') n (λ j e. cells_apart (i' * 4 + j') (i * 4 + j) n (length c) (z j e) hn fits)

    -- every place of another record stays
    pub other_record : (i' j' n : ℕ) → i' ≢ i → j' < 4 → n ≤ most_contents
        → part (held_after i f c held) (place_begins i' j') n ≡ part held (place_begins i' j') n
    other_record i' j' n z hj hn =
        other_place i' j' n hn
        (λ j e.
        let h : j < 4 = place j e in
        λ g. z (omega arith))

    -- every octet outside the places of record i stays
    pub own_places_only : (k : ℕ) → (k < place_begins i 0) ⊎ (place_begins (i + 1) 0 ≤ k) → get_or (held_after i f c held) k 0 ≡ get_or held k 0
    unfolding place_begins
    own_places_only k outside = octet_beside (held_after i f c held) held k (held_beside k 1 (λ j e. by j (place j e) outside))
      where
        by : (j : ℕ) → j < 4 → (k < place_begins i 0) ⊎ (place_begins (i + 1) 0 ≤ k) → (k + 1 ≤ place_begins i j) ⊎ (place_begins i j + length c ≤ k)
        by j h (inl l) = inl (omega arith)
        by j h (inr l) = inr (omega arith)
