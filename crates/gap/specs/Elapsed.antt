-- What elapsed time does to one record (01, "One channel", elapsed).
use Rattle.std.specs.Prelude.{ℕ, ◌+◌, ◌-◌, ◌*◌, cond, leb, eqb}
use Rattle.record.specs.Profile.{nak_timeout, max_retries}
use Rattle.record.specs.Reasons.{channel_expired, lost_sequence}
use Rattle.record.specs.With.{freed, with_gap, with_idle}
use Rattle.record.specs.declared.Gap.{Gap}
use Rattle.record.specs.declared.Gap.TheVariants as gap
use Rattle.record.specs.declared.Record.{Record}
use Rattle.gap.specs.Standoff.{standoff_of}
use Rattle.gap.specs.Range.{nak_first, nak_last}
use Rattle.gap.specs.declared.Event.{Event}
use Rattle.gap.specs.declared.Event.TheVariants as event
use Rattle.gap.specs.declared.Elapsed.{Elapsed}

abbrev pub gives : Record → Event → Elapsed
gives r e = record { after = r; event = e }

-- a standoff with `left` milliseconds left: when none is left the NAK goes out and is counted, and the wait for its answer begins
unfoldable pub in_standoff : Record → ℕ → ℕ → Elapsed
in_standoff r left count =
    cond (eqb left 0)
    (gives (with_gap r (gap.Waiting (nak_timeout r.terms.expiry) (count + 1))) (event.Nak r.reliable (nak_first r) (nak_last r) r.terms.outbound))
    (gives (with_gap r (gap.Standoff left count)) event.Nothing)

-- a wait with `left` milliseconds left: when none is left the channel is given up after the last NAK, and else stands off once more
unfoldable pub in_wait : Record → ℕ → ℕ → Elapsed
in_wait r left count =
    cond (eqb left 0)
    (cond (eqb count max_retries)
    (gives (freed (with_gap r (gap.Waiting left count))) (event.Leaving lost_sequence r.reliable))
    (gives (with_gap r (gap.Standoff (standoff_of r) count)) event.Nothing))
    (gives (with_gap r (gap.Waiting left count)) event.Nothing)

-- the time left of a phase is spent; a phase whose time is up makes one move
unfoldable pub phased : Record → Gap → ℕ → Elapsed
phased r gap.Quiet ms = gives r event.Nothing
phased r (gap.Standoff left count) ms = in_standoff r (left - ms) count
phased r (gap.Waiting left count) ms = in_wait r (left - ms) count

-- the channel has been idle for that much longer. Once that reaches its expiry, which is in seconds, it is left and its phase does not move. A free record
-- stands
unfoldable pub elapsed_of : Record → ℕ → Elapsed
elapsed_of r ms =
    cond r.used
    (cond (leb (r.terms.expiry * 1000) (r.idle + ms))
    (gives (freed (with_idle r (r.idle + ms))) (event.Leaving channel_expired r.reliable))
    (phased (with_idle r (r.idle + ms)) r.gap ms))
    (gives r event.Nothing)
