-- A well-formed record was idle for less than its expiry, and a record that does not expire is well formed when its phase is looked at.
use Rattle.std.proofs.Common.{rules, ◌≡◌, ◌+◌, true, arith}
use Rattle.std.proofs.lemmas.Bool.{not-false}
use Rattle.record.proofs.Formed.{formed}
use Rattle.gap.proofs.Stays.{idle_kept}
use Rattle.gap.proofs.elapsed_step.Goals as goal

pub overflow_add-later : goal.overflow_add-later
overflow_add-later c =
    let used : c.args.r.used ≡ true = not-false _ c.if-not-r.false in
    record { fits = omega (arith, (formed c.args.r c.requires.0 used).idle) }

pub phase_step-requires : goal.phase_step-requires
phase_step-requires c =
    (not-false _ c.if-not-r.false, idle_kept c.args.r (c.args.r.idle + c.args.ms) c.requires.0 (search rules))
