-- The number of NAKs, and one more, fits its octet.
use Rattle.std.proofs.Common.{arith}
use Rattle.record.proofs.Profile.{retries_fit}
use Rattle.gap.proofs.in_standoff.Goals as goal

pub overflow_add-count : goal.overflow_add-count
overflow_add-count c = omega (arith, retries_fit)
