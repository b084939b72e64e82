-- What a whole PDU has (01, "Blocks and layouts"): it is not malformed, so its fields fit in its length and its length in the block.
-- Assumes nothing.
use mathlib.Core.Path.{◌≡◌, refl}
use mathlib.Core.Bool.{Bool, true, false, cond, ◌||◌, true≢false}
use mathlib.Core.List.{List}
use Prim.Native.Nat.{ℕ, ◌+◌, ◌<◌, ◌≤◌}
use native.Mathlib.Omega.{arith}
use lib.ListN.{length, get_or}
use lib.Dec.{lit≤}
use borrow.Author.Tests.{ltb-false}
use Rattle.std.specs.Prelude.{Some, None}
use Rattle.block.specs.Pdu.{has_l, has_v, head_size, fields, size_at, lacks_flag, below_fields, length_missing, past_end, left_over, malformed, found_at, pdu_at}
use Rattle.block.specs.declared.Found.{Found}
use Rattle.block.specs.declared.Whole.{Whole}

-- what is not the one or the other is neither
pub neither : (a b : Bool) → (a || b) ≡ false → (a ≡ false) × (b ≡ false)
neither true b e = absurd (true≢false e)
neither false b e = (refl, e)

-- the PDU at `at` has its flags, its length fits, and w is its message and the place behind it
pub record Sound (s : List ℕ) (at : ℕ) (before : Found) (w : Whole) : Type 0 where
  pub flagged : lacks_flag at (get_or s at 0) ≡ false
  pub fits : fields (get_or s at 0) ≤ size_at s at
  pub inside : at + size_at s at ≤ length s
  pub message : w.found ≡ found_at at (get_or s at 0) (size_at s at) before
  pub behind : w.next ≡ at + size_at s at

-- a PDU's own fields are two octets or more
two_fields : (v l : Bool) → 2 ≤ cond v (cond l 3 2 + 1) (cond l 3 2)
two_fields true true = lit≤ tt
two_fields true false = lit≤ tt
two_fields false true = lit≤ tt
two_fields false false = lit≤ tt

module _ (s : List ℕ) (at : ℕ) (before : Found) {w : Whole} where
  of_test : (t : Bool) → malformed s at ≡ t
      → cond t None (Some (record { found = found_at at (get_or s at 0) (size_at s at) before; next = at + size_at s at })) ≡ Some w
      → Sound s at before w
  unfolding malformed
  of_test true e f = let z : ◌≡◌ {A = ℕ} 0 1 = cc in absurd (omega arith)
  of_test false e f =
      let b : ℕ = get_or s at 0 in
      let left = neither (lacks_flag at b || below_fields s at || length_missing s at || past_end s at) (left_over b (fields b) (size_at s at)) e in
      let past = neither (lacks_flag at b || below_fields s at || length_missing s at) (past_end s at) left.0 in
      let missing = neither (lacks_flag at b || below_fields s at) (length_missing s at) past.0 in
      let below = neither (lacks_flag at b) (below_fields s at) missing.0 in
      record {
        flagged = below.0;
        fits = ltb-false (size_at s at) (fields b) below.1;
        inside = ltb-false (length s) (at + size_at s at) past.1;
        message = cc;
        behind = cc;
      }

  -- a whole PDU is malformed by no clause
  pub sound : pdu_at s at before ≡ Some w → Sound s at before w
  unfolding pdu_at
  sound = of_test (malformed s at) refl

  -- a whole PDU ends behind its first octet and within the block
  pub whole_within : pdu_at s at before ≡ Some w → (at < w.next) × (w.next ≤ length s)
  unfolding fields head_size
  whole_within e =
      let whole = sound e in
      let least = two_fields (has_v (get_or s at 0)) (has_l (get_or s at 0)) in
      omega arith
