-- `writing::put_cid` meets its contract: its writes are one run. Assumes nothing.
use native.Mathlib.Omega.{arith}
use Rattle.octets.specs.Octets.{octets}
use Rattle.writing.specs.Fields.{cid_octets}
use Rattle.writing.proofs.Runs.{◌then◌, done, written}
use Rattle.writing.proofs.put_cid.Goals as goal

pub returns : goal.returns
unfolding octets cid_octets
returns c =
    written
    (c.put-at.ensures
    then c.put.ensures
    then done)
    (search)
    (omega arith)
