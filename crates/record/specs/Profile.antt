-- The profile's numbers (000, Table 4, by way of the interoperability profile: docs/DECISIONS.md). They stand here once; no theorem leans on their values,
-- but on what proofs/Profile.antt says of them: that NAK_MAX_RETRIES and MIN_EXPIRY_TIME are not 0, and that a count of NAKs and one more fit an octet.
use Rattle.std.specs.Prelude.{ℕ, ◌*◌}

-- MIN_EXPIRY_TIME, in seconds
unfoldable pub min_expiry : ℕ
min_expiry = 2

-- NAK_TIMEOUT_FACTOR, in milliseconds for each second of expiry
unfoldable pub nak_timeout_factor : ℕ
nak_timeout_factor = 100

-- NAK_TIMEOUT, in milliseconds
unfoldable pub nak_timeout : ℕ → ℕ
nak_timeout expiry = expiry * nak_timeout_factor

-- NAK_MAX_RETRIES
unfoldable pub max_retries : ℕ
max_retries = 3
