-- One PDU: the leaves of the definitions of specs/Pdu.antt, over plain variables, each from the facts that lead there, so that a function's
-- proof writes no path. Assumes nothing.
use mathlib.Core.Path.{◌≡◌, sym, ◌∙◌}
use Prim.Native.Nat.{ℕ, ◌+◌, ◌-◌, ◌*◌, ◌/◌, ◌%◌, ◌<◌, ◌≤◌}
use native.Mathlib.Omega.{arith}
use native.Mathlib.Nat.{div-div-eq-div-mul}
use mathlib.Core.Bool.{Bool, true, false, cond, ◌&&◌, or-true}
use mathlib.Core.List.{List}
use lib.ListN.{length, get_or}
use lib.Dec.{eqb, lit<}
use lib.Arith.{mod-mul}
use borrow.Author.Tests.{lt-ltb, le-ltb, eq-eqb, ne_eqb, eqb-true, eqb-false}
use borrow.Author.Rules.{rules}
use Rattle.std.specs.Prelude.{Some, None}
use Rattle.octets.specs.Octets.{number}
use Rattle.octets.proofs.Numbers.{part_cons}
use Rattle.block.specs.Pdu.{has_l, has_v, has_h, has_d, head_size, fields, size_at, lacks_flag, left_over, malformed, found_at, pdu_at}
use Rattle.block.specs.declared.Found.{Found}

-- ---- the flags

-- V, H and D are the three bits above the low four; the code tests them at once
pub flags : (b : ℕ) (v h d : Bool) → has_v b ≡ v → has_h b ≡ h → has_d b ≡ d → eqb (b / 16 % 8) 7 ≡ v && h && d
flags b true true true v h d =
    let q : ℕ = b / 16 in
    let v : q / 4 % 2 ≡ 1 = rw (div-div-eq-div-mul b 16 4) (eqb-true _ _ v) in
    let h : q / 2 % 2 ≡ 1 = rw (div-div-eq-div-mul b 16 2) (eqb-true _ _ h) in
    let d : q % 2 ≡ 1 = eqb-true _ _ d in
    eq-eqb (q % 8) 7 (mod-mul q {m = 2} {c = 4} (lit< tt) (lit< tt) ∙ rw (v, mod-mul q {m = 2} {c = 2} (lit< tt) (lit< tt), h, d))
flags b false _ _ v h d = ne_eqb (b / 16 % 8) 7 (λ e. eqb-false (b / 64 % 2) 1 v (omega arith))
flags b true false _ v h d = ne_eqb (b / 16 % 8) 7 (λ e. eqb-false (b / 32 % 2) 1 h (omega arith))
flags b true true false v h d = ne_eqb (b / 16 % 8) 7 (λ e. eqb-false (b / 16 % 2) 1 d (omega arith))

-- ---- the length, whose octets lie in the block

module _ (s : List ℕ) (at : ℕ) (h : at + head_size (get_or s at 0) ≤ length s) where
  pub second_octet : at + 1 < length s
  unfolding head_size
  second_octet = by (has_l (get_or s at 0)) h
    where
      by : (l : Bool) → at + cond l 3 2 ≤ length s → at + 1 < length s
      by true h = omega arith
      by false h = omega arith

  module _ (l : Bool) (e : l ≡ has_l (get_or s at 0)) where
    pub third_octet : l ≡ true → at + 2 < length s
    unfolding head_size
    third_octet t = let h : at + 3 ≤ length s = rw (← e, t) at h in omega arith

    pub size_short : l ≡ false → get_or s at 0 % 16 * 256 + get_or s (at + 1) 0 ≡ size_at s at
    unfolding number size_at head_size
    size_short t = sym (rw (← e, t, part_cons s (at + 1) 0 second_octet) (omega arith))

    pub size_long : l ≡ true → (get_or s at 0 % 16 * 256 + get_or s (at + 1) 0) * 256 + get_or s (at + 2) 0 ≡ size_at s at
    unfolding number size_at head_size
    size_long t =
        let two : at + 1 + 1 ≡ at + 2 = omega arith in
        sym
        (rw
        (← e, t, part_cons s (at + 1) 1 second_octet, two, part_cons s (at + 2) 0 (third_octet t))
        (omega arith))

pub ruleset sizes = (second_octet, third_octet, size_short, size_long, rules)

-- ---- malformed or whole

-- each of 01's five clauses by itself makes a PDU malformed; one that none of them fits is whole
module _ (s : List ℕ) (at : ℕ) (before : Found) where
  bad : malformed s at ≡ true → None ≡ pdu_at s at before
  unfolding pdu_at
  bad m = rw m

  pub lacks_flag_lem : lacks_flag at (get_or s at 0) ≡ true → None ≡ pdu_at s at before
  unfolding malformed
  lacks_flag_lem e = bad (simp e)

  pub length_missing_lem : at < length s → length s - at < head_size (get_or s at 0) → None ≡ pdu_at s at before
  unfolding malformed
  length_missing_lem i x = bad (simp (lt-ltb (length s) (at + head_size (get_or s at 0)) (omega arith), or-true))

  pub below_fields_lem : size_at s at < fields (get_or s at 0) → None ≡ pdu_at s at before
  unfolding malformed
  below_fields_lem x = bad (simp (lt-ltb (size_at s at) (fields (get_or s at 0)) x, or-true))

  pub past_end_lem : at < length s → length s - at < size_at s at → None ≡ pdu_at s at before
  unfolding malformed
  past_end_lem i x = bad (simp (lt-ltb (length s) (at + size_at s at) (omega arith), or-true))

  pub left_over_lem : left_over (get_or s at 0) (fields (get_or s at 0)) (size_at s at) ≡ true → None ≡ pdu_at s at before
  unfolding malformed
  left_over_lem e = bad (simp (e, or-true))

  pub whole : lacks_flag at (get_or s at 0) ≡ false → at < length s → head_size (get_or s at 0) ≤ length s - at
      → fields (get_or s at 0) ≤ size_at s at → size_at s at ≤ length s - at
      → left_over (get_or s at 0) (fields (get_or s at 0)) (size_at s at) ≡ false
      → Some (record { found = found_at at (get_or s at 0) (size_at s at) before; next = at + size_at s at }) ≡ pdu_at s at before
  unfolding pdu_at malformed
  whole l i h o z g =
      sym
      (simp
      (l, g, le-ltb _ _ o, le-ltb (length s) (at + head_size (get_or s at 0)) (omega arith), le-ltb (length s) (at + size_at s at) (omega arith)))

pub ruleset pdus = (lacks_flag_lem, length_missing_lem, below_fields_lem, past_end_lem, left_over_lem, rules)
