-- In a standoff of a well-formed record a NAK is left to send.
use Rattle.record.proofs.Formed.{formed, standoff_count}
use Rattle.gap.proofs.phase_step.Goals as goal

pub in_standoff-requires : goal.in_standoff-requires
in_standoff-requires c = standoff_count (formed c.args.r c.requires.1 c.requires.0) _ _ c.in-Standoff.is
