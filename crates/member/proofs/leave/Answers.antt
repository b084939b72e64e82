-- The refusals in their order, and then what the search and the reason decide.
use Rattle.std.proofs.Common.{rules}
use Rattle.member.proofs.Lent.{answers_why}
use Rattle.member.proofs.Departing.{leave_reply_size, leave_owner_size, leave_unformed, leave_asked}
use Rattle.member.proofs.leave.Goals as goal

pub returns-in_err-reply : goal.returns-in_err-reply
returns-in_err-reply c =
    let none = c.in_err-reply.ensures in
    let why = answers_why _ _ _ _ none.ok_part none.value c.from_residual.ensures.1 in
    leave_reply_size _ (search rules) _ _ _ _ _ (rw none.ok_part at c.as_mut_array.ensures.cases) why

pub returns-in_err-owner : goal.returns-in_err-owner
returns-in_err-owner c =
    let none = c.in_err-owner.ensures in
    let why = answers_why _ _ _ _ none.ok_part none.value c.from_residual-in_err-owner.ensures.1 in
    let room = rw c.in_ok-reply.ensures.ok_part at c.as_mut_array.ensures.cases in
    leave_owner_size _ (search rules) _ _ _ _ _ _ room (rw none.ok_part at c.as_array.ensures.cases) why

pub returns-then-not-is_formed : goal.returns-then-not-is_formed
returns-then-not-is_formed c =
    let room = rw c.in_ok-reply.ensures.ok_part at c.as_mut_array.ensures.cases in
    let own = rw c.in_ok-owner.ensures.ok_part at c.as_array.ensures.cases in
    leave_unformed _ (search rules) _ _ _ _ _ _ room _ own _ c.is_formed.ensures (search rules) (search rules)

pub returns : goal.returns
returns c =
    let room = rw c.in_ok-reply.ensures.ok_part at c.as_mut_array.ensures.cases in
    let own = rw c.in_ok-owner.ensures.ok_part at c.as_array.ensures.cases in
    leave_asked _ (search rules) _ _ _ _ _ _ room _ own _ c.is_formed.ensures (search rules) _ _ c.cid_at.ensures c.take_leave.ensures
