-- The parameters that a Join may have (01, "Joining", the first check; reserved bits are the Join's own and stand there).
use Rattle.std.specs.Prelude.{ℕ, Bool, not, ◌&&◌, leb, eqb}
use Rattle.record.specs.Profile.{min_expiry}

-- channel 0 is reserved, and so are MID 0 and 65535
unfoldable pub legal_names : ℕ → ℕ → Bool
legal_names channel mid = not (eqb channel 0) && not (eqb mid 0) && not (eqb mid 65535)

-- the channel has a modulus, and does not expire before MIN_EXPIRY_TIME
unfoldable pub legal_parameters : ℕ → ℕ → Bool
legal_parameters modulus expiry = not (eqb modulus 0) && leb min_expiry expiry
