-- The two calls leave what `plan_outcome` says.
use Rattle.std.proofs.Common.{refl}
use Rattle.member.specs.Messages.{plan_outcome}
use Rattle.member.proofs.Wrapping.{plan_done}
use Rattle.member.proofs.Messaging.{answers_by}
use Rattle.member.proofs.messages.carried.Goals as goal

pub returns : goal.returns
unfolding plan_outcome
returns c =
    let a = c.args in
    let done = plan_done a.table a.held.now a.at a.w a.contents.now a.plan in
    let e = c.carry_out-deliveries.ensures in
    let f = c.put_reply.ensures in
    answers_by _ _ _ _ _ _ (plan_outcome a.table a.held.now a.at a.w a.contents.now a.plan) (done _ _ _ e.0 refl f.0) e.1 e.2 f.1
