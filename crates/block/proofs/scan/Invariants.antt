-- What is left of the block makes of the pass what the whole block makes, and the count of messages, which has to fit, is no greater than
-- the place. The measure is what is left of the length.
use Rattle.std.proofs.Common.{◌≤◌, ◌-◌, length}
use Rattle.block.proofs.Pass.{Rest}
use Rattle.block.proofs.scan.Given as goal

abbrev pub invariant-loop-at : goal.invariant-loop-at
invariant-loop-at l = (l.at ≤ length l.block) × (l.count ≤ l.at) × Rest l.block l.position l.at l.count l.before l.found

abbrev pub decreases-loop-at : goal.decreases-loop-at
decreases-loop-at l = length l.block - l.at
