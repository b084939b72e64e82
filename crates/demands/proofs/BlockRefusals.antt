-- Demand 1 of the order, the refusals of reading a block, "exactly if" both ways: number 1 is given exactly if the block is over 65,535 octets
-- (`read_too_long`), and number 11 with a place exactly if it is not and the first malformed PDU begins at that place (`read_malformed`),
-- whichever message was asked for. Opening a block gives the same (`open_too_long`, `open_malformed`). Assumes nothing.
use Prim.Native.Nat.{ℕ, zero, suc, ◌+◌, ◌<◌, ◌≤◌}
use native.Mathlib.Omega.{arith}
use mathlib.Core.Path.{◌≡◌, refl, ap}
use mathlib.Core.Logic.Iff
use mathlib.Core.Logic.{◌↔◌}
use mathlib.Core.Bool.{Bool, true, false, cond}
use mathlib.Core.List.{List}
use lib.ListN.{length}
use lib.Dec.{ltb}
use borrow.Author.Tests.{ltb-true, ltb-false, lt-ltb, le-ltb}
use Rattle.std.specs.Prelude.{Option, Some, None, Ok, Err}
use Rattle.refusal.specs.declared.Refusal.TheVariants as refusal
use Rattle.block.specs.Pdu.{pdu_at}
use Rattle.block.specs.Block.{most_block, nothing, Parsed, with, onward, parse_from, parse, read_block}
use Rattle.block.specs.Cursor.{opened_of, open_block}
use Rattle.block.specs.declared.Found.{Found}
use Rattle.block.specs.declared.Whole.{Whole}
use Rattle.block.proofs.Sound.{whole_within}
use Rattle.block.proofs.InTurn.{refusal_agrees}
use Rattle.record.proofs.Choices.{never}
use Rattle.demands.specs.Blocks.{FirstBad, here, later}

-- what is said of the PDUs from a place on: if they are broken, the first malformed one of them begins there
abbrev Stops : List ℕ → ℕ → Found → Parsed → Type 0
Stops s at before (Err p) = FirstBad s at before p
Stops s at before (Ok ms) = Unit

module _ (s : List ℕ) where
  -- ---- from the answer to the PDUs

  behind : (at : ℕ) (before : Found) (w : Whole) (rest : Parsed) → at < length s → pdu_at s at before ≡ Some w → Stops s w.next w.found rest
      → Stops s at before (with w.found rest)
  behind at before w (Err p) h e f = later at before w.found w.next p h e f
  behind at before w (Ok ms) h e f = tt

  stop : (at : ℕ) (before : Found) (rest : Found → ℕ → Parsed) (p : Option Whole) → at < length s → pdu_at s at before ≡ p
      → ((m : Found) (next : ℕ) → Stops s next m (rest m next)) → Stops s at before (onward at p rest)
  stop at before rest None h e on = here at before h e
  stop at before rest (Some w) h e on = behind at before w (rest w.found w.next) h e (on w.found w.next)

  stops : (k at : ℕ) (before : Found) (t : Bool) → ltb at (length s) ≡ t → Stops s at before (parse_from k s at before)
  unfolding parse_from
  stops zero at before t e = tt
  stops (suc k) at before false e = rw e tt
  stops (suc k) at before true e =
      rw e
      (stop at before (λ m next. parse_from k s next m) (pdu_at s at before) (ltb-true at (length s) e) refl
      (λ m next. stops k next m (ltb next (length s)) refl))

  parse_stops : Stops s 0 nothing (parse s)
  unfolding parse
  parse_stops = stops (length s) 0 nothing (ltb 0 (length s)) refl

  -- what the answer says of the block, by the test of its length and what it says
  long_why : (t : Bool) (r : Parsed) → ltb most_block (length s) ≡ t → cond t (Err refusal.WrongSize) (opened_of r) ≡ Err refusal.WrongSize
      → most_block < length s
  unfolding opened_of
  long_why true r l e = ltb-true most_block (length s) l
  long_why false (Err q) l e = never (cc)
  long_why false (Ok ms) l e = never (cc)

  bad_why : (p : ℕ) (t : Bool) (r : Parsed) → ltb most_block (length s) ≡ t → Stops s 0 nothing r
      → cond t (Err refusal.WrongSize) (opened_of r) ≡ Err (refusal.Malformed p)
      → (length s ≤ most_block) × FirstBad s 0 nothing p
  unfolding opened_of
  bad_why p true r l f e = never (cc)
  bad_why p false (Err q) l f e = let same : q ≡ p = cc in (ltb-false most_block (length s) l, rw same at f)
  bad_why p false (Ok ms) l f e = never (cc)

  -- ---- from the PDUs to the answer

  -- a whole PDU ends behind its first octet, so a bound that reaches the block's end is enough for those that lead to the malformed one
  breaks : {at : ℕ} {before : Found} {p : ℕ} (k : ℕ) → FirstBad s at before p → length s ≤ at + k → parse_from k s at before ≡ Err p
  unfolding parse_from
  breaks zero (here at before h e) l = absurd (omega arith)
  breaks zero (later at before m next p h e f) l = absurd (omega arith)
  breaks (suc k) (here at before h e) l = rw (lt-ltb at (length s) h, e)
  breaks (suc k) (later at before m next p h e f) l =
      let w = whole_within s at before e in
      rw (lt-ltb at (length s) h, e) (ap (with m) (breaks k f (omega arith)))

  parse_breaks : {p : ℕ} → FirstBad s 0 nothing p → parse s ≡ Err p
  unfolding parse
  parse_breaks f = breaks (length s) f (omega arith)

  -- ---- each refusal exactly if its condition holds and no earlier one

  pub open_too_long : (open_block s ≡ Err refusal.WrongSize) ↔ (most_block < length s)
  unfolding open_block
  open_too_long = (long_why (ltb most_block (length s)) (parse s) refl, λ h. rw (lt-ltb most_block (length s) h))

  pub open_malformed : (p : ℕ) → (open_block s ≡ Err (refusal.Malformed p)) ↔ ((length s ≤ most_block) × FirstBad s 0 nothing p)
  unfolding open_block opened_of
  open_malformed p = (
    bad_why p (ltb most_block (length s)) (parse s) refl parse_stops,
    λ h. rw (le-ltb most_block (length s) h.0, parse_breaks h.1),
  )

  -- 1: the block is too long
  pub read_too_long : (position : ℕ) → (read_block s position ≡ Err refusal.WrongSize) ↔ (most_block < length s)
  read_too_long position = Iff.trans (Iff.symm (refusal_agrees s position refusal.WrongSize)) open_too_long

  -- 11: some PDU of the block is malformed; the place is that of the first such
  pub read_malformed : (position p : ℕ)
      → (read_block s position ≡ Err (refusal.Malformed p)) ↔ ((length s ≤ most_block) × FirstBad s 0 nothing p)
  read_malformed position p = Iff.trans (Iff.symm (refusal_agrees s position (refusal.Malformed p))) (open_malformed p)
