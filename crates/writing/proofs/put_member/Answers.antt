-- `writing::put_member` meets its contract: its two writes are one run. Assumes nothing.
use native.Mathlib.Omega.{arith}
use mathlib.Core.Path.{refl}
use Rattle.octets.specs.Octets.{octets}
use Rattle.writing.specs.Fields.{cid_octets, membership_octets}
use Rattle.writing.proofs.Runs.{number_behind}
use Rattle.writing.proofs.put_member.Goals as goal

pub returns : goal.returns
unfolding octets cid_octets membership_octets
returns g c = number_behind _ _ _ _ _ 24 _ _ _ _ refl c.put_membership-at.ensures c.put.ensures (omega arith)
