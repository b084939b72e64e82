-- Steps 5 and 6 of a wrapper (01, "One channel"): quiet, lost or standoff, and the ACK.
use Rattle.std.specs.Prelude.{ℕ, Bool, Option, Some, None, cond, not, ◌&&◌, leb, eqb, pos}
use Rattle.std.specs.Int.Signed.{le_z}
use Rattle.counter.specs.Distance.{distance}
use Rattle.counter.specs.Steps.{before}
use Rattle.counter.specs.declared.Reliable.{Reliable}
use Rattle.record.specs.Reasons.{lost_sequence}
use Rattle.record.specs.WellFormed.{closed}
use Rattle.record.specs.With.{freed, with_gap, with_acked}
use Rattle.record.specs.declared.Gap.{Gap}
use Rattle.record.specs.declared.Gap.TheVariants as gap
use Rattle.record.specs.declared.Record.{Record}
use Rattle.gap.specs.Standoff.{standoff_of}
use Rattle.wrapper.specs.declared.Arrived.{Arrived}
use Rattle.wrapper.specs.declared.Reply.TheVariants as reply
use Rattle.wrapper.specs.declared.Settled.{Settled}

-- what is missing can no longer be had: oldest available is two or more ahead of R
unfoldable pub lost : Record → Reliable → Bool
lost r oldest = le_z (pos 2) (distance r.reliable.0 oldest.0)

-- a quiet channel begins its standoff; a phase that runs goes on
abbrev pub begun : Gap → ℕ → Gap
begun gap.Quiet time = gap.Standoff time 0
begun (gap.Standoff left count) time = gap.Standoff left count
begun (gap.Waiting left count) time = gap.Waiting left count

-- step 5: without a gap the channel is quiet; in a gap it is left, and no record stays, if that is lost, and else it waits for what is missing
unfoldable pub gapped : Record → Reliable → Option Record
gapped r oldest =
    cond (closed r) (Some (with_gap r gap.Quiet))
    (cond (lost r oldest) None (Some (with_gap r (begun r.gap (standoff_of r)))))

-- the range first to last asks this member
unfoldable pub asked : Record → Arrived → Bool
asked r w = leb w.first r.terms.mid && leb r.terms.mid w.last

-- the threshold spares it: it has acknowledged a number past reliable − threshold
unfoldable pub spared : Record → Arrived → Bool
spared r w =
    not (eqb w.threshold 0)
    && le_z (pos 1) (distance (before w.threshold w.reliable.0) r.acked.0)

-- step 6: who is asked and not spared acknowledges R
unfoldable pub acknowledged : Record → Arrived → Settled
acknowledged r w =
    cond (asked r w && not (spared r w))
    (record { after = with_acked r r.reliable; reply = reply.Ack r.reliable })
    (record { after = r; reply = reply.Nothing })

-- steps 5 and 6: a channel that is left sends Leaving, and no ACK
abbrev pub settled_by : Option Record → Record → Arrived → Settled
settled_by (Some after) r w = acknowledged after w
settled_by None r w = record { after = freed r; reply = reply.Leaving lost_sequence r.reliable }

unfoldable pub settled : Record → Arrived → Settled
settled r w = settled_by (gapped r w.oldest) r w
