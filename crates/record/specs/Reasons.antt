-- Reason codes (000, Table 6). Which of them a Join Refuse and a Leaving may carry, figures 16 and 18 say.
use Rattle.std.specs.Prelude.{ℕ, ◌≡◌, ◌<◌, Bool, ◌||◌, eqb, ◌⊎◌, Result, MatchResult}
use Rattle.record.specs.declared.reasons.Reason.{Reason}
use Rattle.record.specs.declared.reasons.Reason.TheVariants as reason
use Rattle.record.specs.declared.reasons.NoReason.{NoReason}

abbrev pub nonspecific : ℕ
nonspecific = 1

abbrev pub illegal_parameters : ℕ
illegal_parameters = 2

abbrev pub low_resources : ℕ
low_resources = 3

abbrev pub already_member : ℕ
already_member = 4

abbrev pub bad_address : ℕ
bad_address = 5

abbrev pub no_reciprocal : ℕ
no_reciprocal = 6

abbrev pub channel_expired : ℕ
channel_expired = 7

abbrev pub lost_sequence : ℕ
lost_sequence = 8

abbrev pub saturated : ℕ
saturated = 9

abbrev pub address_changing : ℕ
address_changing = 10

abbrev pub asked_to_leave : ℕ
asked_to_leave = 11

-- the number of each reason
abbrev pub number_of : Reason → ℕ
number_of reason.Nonspecific = nonspecific
number_of reason.IllegalParameters = illegal_parameters
number_of reason.LowResources = low_resources
number_of reason.AlreadyMember = already_member
number_of reason.BadAddress = bad_address
number_of reason.NoReciprocal = no_reciprocal
number_of reason.ChannelExpired = channel_expired
number_of reason.LostSequence = lost_sequence
number_of reason.Saturated = saturated
number_of reason.AddressChanging = address_changing
number_of reason.AskedToLeave = asked_to_leave

-- a number read as a reason: the one that has it, or none
abbrev pub Reads : ℕ → Result Reason NoReason → Type 0
Reads n r = MatchResult r (λ found. number_of found ≡ n) (λ e. (n ≡ 0) ⊎ (11 < n))

-- figure 18: the reasons of a Leaving
unfoldable pub leaving_reason : ℕ → Bool
leaving_reason n =
    eqb n nonspecific
    || eqb n no_reciprocal
    || eqb n channel_expired
    || eqb n lost_sequence
    || eqb n saturated
    || eqb n address_changing
    || eqb n asked_to_leave
