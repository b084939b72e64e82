-- `writing::put_wrapper` meets its contract: its writes are one run. Assumes nothing.
use native.Mathlib.Omega.{arith}
use Rattle.octets.specs.Octets.{octets}
use Rattle.writing.specs.Fields.{wrapper_octets}
use Rattle.writing.proofs.Runs.{◌then◌, done, written}
use Rattle.writing.proofs.put_wrapper.Goals as goal

pub returns : goal.returns
unfolding octets wrapper_octets
returns c =
    written
    (c.put-at.ensures
    then c.put-at-2.ensures
    then c.put-at-3.ensures
    then c.put-at-4.ensures
    then c.put-at-5.ensures
    then c.put-at-6.ensures
    then c.put.ensures
    then done)
    (search)
    (omega arith)
