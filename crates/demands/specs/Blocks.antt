-- The first malformed PDU of a block (01, "Blocks and layouts"), told without the loop that reads a block: for the theorems on refusals 1 and 11.
use Rattle.std.specs.Prelude.{ℕ, ◌<◌, List, ◌≡◌, length, Some, None}
use Rattle.block.specs.Pdu.{pdu_at}
use Rattle.block.specs.declared.Found.{Found}

-- FirstBad s at before p: from `at` on, behind the message `before`, whole PDUs lead to p, and the PDU that begins at p is malformed
pub data FirstBad (s : List ℕ) : ℕ → Found → ℕ → Type 0 where
  here : (at : ℕ) (before : Found) → at < length s → pdu_at s at before ≡ None → FirstBad s at before at
  later : (at : ℕ) (before m : Found) (next p : ℕ) → at < length s → pdu_at s at before ≡ Some (record { found = m; next = next }) → FirstBad s next m p
      → FirstBad s at before p
