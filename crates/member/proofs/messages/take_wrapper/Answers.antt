-- Step 1 refuses, or its plan can be carried out.
use Rattle.std.proofs.Common.{arith}
use Rattle.table.specs.Table.{record_at}
use Rattle.member.proofs.Lent.{passes_on}
use Rattle.member.proofs.Wrapping.{four_places, step_fits, step_refused, step_taken}
use Rattle.member.proofs.Messaging.{answers_as, refused_answers}
use Rattle.member.proofs.messages.take_wrapper.Goals as goal

pub returns-in_err-plan : goal.returns-in_err-plan
returns-in_err-plan c =
    let a = c.args in
    let out = step_refused a.table a.held.now a.at a.w a.contents.now _ c.wrapper_step.ensures _ c.in_err-plan.was in
    answers_as _ _ _ _ _ _ _ _ out (refused_answers a.table a.held.now _ _ _ _ (passes_on _ _ c.from_residual.ensures.1))

pub carried-requires : goal.carried-requires
carried-requires c =
    let a = c.args in
    let p = c.requires.at_bound in
    let q = c.requires.len_value in
    let four = four_places a.table _ c.well_formed.0 a.at p.0 in
    let fits = step_fits (record_at a.table a.at) p.1 p.2 four a.w q.1 _ _ c.wrapper_step.ensures c.in_ok-plan.was in
    (p.0, fits, omega (arith, q.0, q.1))

pub returns : goal.returns
returns c =
    let a = c.args in
    let out = step_taken a.table a.held.now a.at a.w a.contents.now _ c.wrapper_step.ensures _ c.in_ok-plan.was in
    answers_as _ _ _ _ _ _ _ _ out c.carried.ensures
