-- `writing::put_nak` meets its contract: its writes are one run. Assumes nothing.
use native.Mathlib.Omega.{arith}
use Rattle.octets.specs.Octets.{octets}
use Rattle.writing.specs.Fields.{cid_octets, membership_octets}
use Rattle.writing.proofs.Runs.{◌then◌, done, written}
use Rattle.writing.proofs.put_nak.Goals as goal

pub returns : goal.returns
unfolding octets cid_octets membership_octets
returns c =
    written
    (c.put_membership-at.ensures
    then c.put-at.ensures
    then c.put.ensures
    then done)
    (search)
    (omega arith)
