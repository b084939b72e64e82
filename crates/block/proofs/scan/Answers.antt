-- The loop leaves of the pass what the whole block makes of it.
use Rattle.block.proofs.Pass.{turns}
use Rattle.block.proofs.scan.Goals as goal

pub returns-in_default : goal.returns-in_default
returns-in_default c = search turns

pub returns : goal.returns
returns c = search turns
