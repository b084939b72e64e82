-- The messages of a block do not depend on the number that bounds them in `parse_from`, as long as it is enough. Assumes nothing.
use mathlib.Core.Path.{◌≡◌, refl, ap}
use mathlib.Core.Bool.{cond}
use mathlib.Core.List.{List, []}
use Prim.Native.Nat.{ℕ, zero, suc, ◌+◌, ◌≤◌}
use native.Mathlib.Omega.{arith}
use lib.ListN.{length}
use lib.Dec.{ltb}
use borrow.Author.Tests.{le-ltb}
use Rattle.std.specs.Prelude.{Option, Some, None, Ok}
use Rattle.block.specs.Pdu.{pdu_at}
use Rattle.block.specs.Block.{Parsed, with, onward, parse_from}
use Rattle.block.specs.declared.Found.{Found}
use Rattle.block.specs.declared.Whole.{Whole}
use Rattle.block.proofs.Sound.{whole_within}

-- behind the PDU at `at`, two ways to go on agree if they agree wherever it may end
same_onward : (at : ℕ) (p : Option Whole) (f g : Found → ℕ → Parsed) → ((w : Whole) → p ≡ Some w → f w.found w.next ≡ g w.found w.next)
    → onward at p f ≡ onward at p g
same_onward at None f g h = refl
same_onward at (Some w) f g h = ap (with w.found) (h w refl)

-- the answer is the same for any two bounds that are enough
pub enough : (j k : ℕ) (s : List ℕ) (at : ℕ) (before : Found) → length s ≤ at + j → length s ≤ at + k
    → parse_from j s at before ≡ parse_from k s at before
unfolding parse_from
enough zero zero s at before hj hk = refl
enough zero (suc k) s at before hj hk = rw (le-ltb at (length s) (omega arith))
enough (suc j) zero s at before hj hk = rw (le-ltb at (length s) (omega arith))
enough (suc j) (suc k) s at before hj hk =
    ap (λ (p : Parsed). cond (ltb at (length s)) p (Ok []))
    (same_onward at (pdu_at s at before) (λ m next. parse_from j s next m) (λ m next. parse_from k s next m)
    (λ w e. let i = whole_within s at before e in enough j k s w.next w.found (omega arith) (omega arith)))
