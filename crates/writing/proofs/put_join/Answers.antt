-- `writing::put_join` meets its contract: its writes are one run. What is left of the room behind the fixed fields is the address's.
-- Assumes nothing.
use native.Mathlib.Omega.{arith}
use Rattle.octets.specs.Octets.{octets}
use Rattle.writing.specs.Fields.{cid_octets, join_octets}
use Rattle.writing.proofs.Runs.{◌then◌, done, written}
use Rattle.writing.proofs.put_join.Goals as goal

pub returns : goal.returns
unfolding octets cid_octets join_octets
returns c =
    written
    (c.put_cid-at.ensures
    then c.put-at.ensures
    then c.put-at-2.ensures
    then c.put-at-3.ensures
    then c.put-at-4.ensures
    then c.put-at-5.ensures
    then c.put_address.ensures
    then done)
    (search)
    (omega arith)
