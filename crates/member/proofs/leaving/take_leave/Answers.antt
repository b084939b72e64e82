-- Refusals 6 and 10 by what is found and by the reason, and else the record is left.
use Rattle.std.proofs.Common.{rules}
use Rattle.member.proofs.Lent.{answers_why}
use Rattle.member.proofs.Departing.{leave_unknown, leave_unreasoned, leave_taken}
use Rattle.member.proofs.leaving.take_leave.Goals as goal

pub returns-in_err-at : goal.returns-in_err-at
returns-in_err-at c =
    let none = c.in_err-at.ensures in
    leave_unknown _ _ _ _ _ c.find.ensures.first _ _ none.ok_part (answers_why _ _ _ _ none.ok_part none.value c.from_residual.ensures.1)

pub returns-then-not-is_leaving_reason : goal.returns-then-not-is_leaving_reason
returns-then-not-is_leaving_reason c =
    leave_unreasoned _ _ _ _ _ c.find.ensures.first _ _ _ c.in_ok-at.ensures.ok_part _ c.is_leaving_reason.ensures (search rules) (search rules)

pub returns : goal.returns
returns c =
    leave_taken _ _ _ _ _ c.find.ensures.first _ _ _ c.in_ok-at.ensures.ok_part _ c.is_leaving_reason.ensures (search rules) _ c.depart.ensures
