-- Induction along the PDUs of a block: how a law on all that `parse_from` gives is shown PDU by PDU. Assumes nothing.
use mathlib.Core.Path.{◌≡◌, refl}
use mathlib.Core.Bool.{Bool, true, false}
use mathlib.Core.List.{List, []}
use Prim.Native.Nat.{ℕ, zero, suc, ◌+◌, ◌<◌, ◌≤◌}
use native.Mathlib.Omega.{arith}
use lib.ListN.{length}
use lib.Dec.{ltb}
use borrow.Author.Tests.{ltb-true, ltb-false}
use Rattle.std.specs.Prelude.{Option, Some, None, Ok, Err}
use Rattle.block.specs.Pdu.{pdu_at}
use Rattle.block.specs.Block.{Parsed, with, onward, parse_from}
use Rattle.block.specs.declared.Found.{Found}
use Rattle.block.specs.declared.Whole.{Whole}
use Rattle.block.proofs.Sound.{whole_within}

module _
    (s : List ℕ)
    (P : ℕ → Found → Parsed → Type 0)
    (ended : (at : ℕ) (before : Found) → length s ≤ at → P at before (Ok []))
    (bad : (at : ℕ) (before : Found) → at < length s → P at before (Err at))
    (whole : (at : ℕ) (before : Found) (w : Whole) (rest : Parsed) → pdu_at s at before ≡ Some w → at < length s → P w.next w.found rest
    → P at before (with w.found rest))
  where
    step : (at : ℕ) (before : Found) (rest : Found → ℕ → Parsed) (p : Option Whole) → pdu_at s at before ≡ p → at < length s
        → ((m : Found) (next : ℕ) → at < next → P next m (rest m next)) → P at before (onward at p rest)
    step at before rest None e h on = bad at before h
    step at before rest (Some w) e h on = whole at before w (rest w.found w.next) e h (on w.found w.next (whole_within s at before e).0)

    from : (k at : ℕ) (before : Found) (t : Bool) → ltb at (length s) ≡ t → length s ≤ at + k → P at before (parse_from k s at before)
    unfolding parse_from
    from zero at before t e h = ended at before (omega arith)
    from (suc k) at before false e h = rw e (ended at before (ltb-false at (length s) e))
    from (suc k) at before true e h =
        rw e
        (step at before (λ m next. parse_from k s next m) (pdu_at s at before) refl (ltb-true at (length s) e)
        (λ m next w. from k next m (ltb next (length s)) refl (omega arith)))

    -- what holds at the end and at a malformed PDU, and of a whole PDU if it holds behind it, holds wherever reading begins
    pub along : (k at : ℕ) (before : Found) → length s ≤ at + k → P at before (parse_from k s at before)
    along k at before = from k at before (ltb at (length s)) refl
