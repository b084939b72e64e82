-- Steps 1 and 2 of a wrapper (01, "One channel"): d is the distance from T to its total, and e from R to its reliable number.
use Prim.{Unit}
use Rattle.std.specs.Prelude.{Bool, cond, ◌&&◌, Result, Ok, Err, ℤ, pos}
use Rattle.std.specs.Int.Signed.{lt_z, le_z}
use Rattle.counter.specs.Distance.{distance}
use Rattle.counter.specs.declared.Total.{Total}
use Rattle.counter.specs.declared.Reliable.{Reliable}
use Rattle.record.specs.With.{with_known, with_idle}
use Rattle.record.specs.declared.Record.{Record}
use Rattle.refusal.specs.declared.Refusal.{Refusal}
use Rattle.refusal.specs.declared.Refusal.TheVariants.{Old, Inconsistent}

-- a reliable one is consistent if 1 ≤ e ≤ d, and an unreliable one if 0 ≤ e < d
unfoldable pub consistent : Bool → ℤ → ℤ → Bool
consistent reliably d e = cond reliably (le_z (pos 1) e && le_z e d) (le_z (pos 0) e && lt_z e d)

-- step 1: what does not lie ahead of T is old; of the rest, what is not consistent is refused
unfoldable pub judged_by : Bool → ℤ → ℤ → Result (Unit {0}) Refusal
judged_by reliably d e = cond (le_z d (pos 0)) (Err Old) (cond (consistent reliably d e) (Ok tt) (Err Inconsistent))

unfoldable pub judged : Record → Bool → Total → Reliable → Result (Unit {0}) Refusal
judged r reliably t n = judged_by reliably (distance r.total.0 t.0) (distance r.reliable.0 n.0)

-- step 2, K: of K and a number, the one that lies farther from R
unfoldable pub farther : Reliable → Reliable → Reliable → Reliable
farther r k n = cond (lt_z (distance r.0 k.0) (distance r.0 n.0)) n k

-- step 2: the owner was heard, so the channel is not idle; and the wrapper may be the highest one known to be sent
unfoldable pub heard : Record → Reliable → Record
heard r n = with_known (with_idle r 0) (farther r.reliable r.known n)
