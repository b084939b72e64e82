-- All that proofs ask of the profile's numbers: none leans on their values beyond this. Assumes nothing.
use Prim.Native.Nat.{◌<◌}
use lib.Dec.{lit<}
use Rattle.record.specs.Profile.{min_expiry, max_retries}

-- a channel may send a NAK
pub some_retries : 0 < max_retries
unfolding max_retries
some_retries = lit< tt

-- and their number, and one more, fits the octet in which they are counted
pub retries_fit : max_retries < 255
unfolding max_retries
retries_fit = lit< tt

-- no channel expires at once
pub some_expiry : 0 < min_expiry
unfolding min_expiry
some_expiry = lit< tt
