-- `writing::put_address` meets its contract: the writes of an arm are one run, and the last arm writes nothing. The address is known in
-- each arm, so its length computes. Assumes nothing.
use native.Mathlib.Omega.{arith}
use Rattle.octets.specs.Octets.{octets}
use Rattle.octets.proofs.Writes.{splice_nothing}
use Rattle.writing.specs.Fields.{parameters_octets, address_octets}
use Rattle.writing.proofs.Forms.{null_length, ipv4_length}
use Rattle.writing.proofs.Runs.{◌then◌, done, written}
use Rattle.writing.proofs.put_address.Goals as goal

pub returns-in-Null : goal.returns-in-Null
unfolding octets parameters_octets address_octets
returns-in-Null c =
    rw c.in-Null.is
    (written (c.put-at.ensures then c.put_parameters.ensures then done) (search) (grind (arith, null_length)))

pub returns-in-Ipv4 : goal.returns-in-Ipv4
unfolding octets parameters_octets address_octets
returns-in-Ipv4 c =
    rw c.in-Ipv4.is
    (written
    (c.put-at-in-Ipv4.ensures
    then c.put-at-in-Ipv4-2.ensures
    then c.put-at-in-Ipv4-3.ensures
    then c.put_parameters-in-Ipv4.ensures
    then done)
    (search)
    (grind (arith, ipv4_length)))

pub returns-in-Other : goal.returns-in-Other
unfolding address_octets
returns-in-Other c = rw c.in-Other.is (splice_nothing _ _, omega arith)
