-- Refusal 1 at the first piece of a wrong size, refusal 2, or what the message asks.
use Rattle.std.proofs.Common.{rules, sym, ◌∙◌}
use borrow.Author.Tests.{not-false}
use Rattle.member.proofs.Lent.{answers_why}
use Rattle.member.proofs.Messaging.{held_size_wrong, deliver_size_wrong, reply_size_wrong, sender_size_wrong, ours_size_wrong, table_wrong, call_asked}
use Rattle.member.proofs.message.Goals as goal

pub returns-in_err-held : goal.returns-in_err-held
returns-in_err-held c =
    let none = c.in_err-held.ensures in
    let why = answers_why _ _ _ _ none.ok_part none.value c.from_residual.ensures.1 in
    held_size_wrong _ (search rules) _ _ _ _ _ _ _ _ _ (rw none.ok_part at c.as_mut_array.ensures.cases) why

pub returns-in_err-deliver : goal.returns-in_err-deliver
returns-in_err-deliver c =
    let held = rw c.in_ok-held.ensures.ok_part at c.as_mut_array.ensures.cases in
    let none = c.in_err-deliver.ensures in
    let why = answers_why _ _ _ _ none.ok_part none.value c.from_residual-in_err-deliver.ensures.1 in
    deliver_size_wrong _ (search rules) _ _ _ _ _ _ _ _ _ _ held (rw none.ok_part at c.as_mut_array-2.ensures.cases) why

pub returns-in_err-reply : goal.returns-in_err-reply
returns-in_err-reply c =
    let held = rw c.in_ok-held.ensures.ok_part at c.as_mut_array.ensures.cases in
    let deliver = rw c.in_ok-deliver.ensures.ok_part at c.as_mut_array-2.ensures.cases in
    let none = c.in_err-reply.ensures in
    let why = answers_why _ _ _ _ none.ok_part none.value c.from_residual-in_err-reply.ensures.1 in
    reply_size_wrong _ (search rules) _ _ _ _ _ _ _ _ _ _ held _ deliver (rw none.ok_part at c.as_mut_array-3.ensures.cases) why

pub returns-in_err-sender : goal.returns-in_err-sender
returns-in_err-sender c =
    let held = rw c.in_ok-held.ensures.ok_part at c.as_mut_array.ensures.cases in
    let deliver = rw c.in_ok-deliver.ensures.ok_part at c.as_mut_array-2.ensures.cases in
    let reply = rw c.in_ok-reply.ensures.ok_part at c.as_mut_array-3.ensures.cases in
    let none = c.in_err-sender.ensures in
    let why = answers_why _ _ _ _ none.ok_part none.value c.from_residual-in_err-sender.ensures.1 in
    sender_size_wrong _ (search rules) _ _ _ _ _ _ _ _ _ _ held _ deliver _ reply (rw none.ok_part at c.as_array.ensures.cases) why

pub returns-in_err-ours : goal.returns-in_err-ours
returns-in_err-ours c =
    let held = rw c.in_ok-held.ensures.ok_part at c.as_mut_array.ensures.cases in
    let deliver = rw c.in_ok-deliver.ensures.ok_part at c.as_mut_array-2.ensures.cases in
    let reply = rw c.in_ok-reply.ensures.ok_part at c.as_mut_array-3.ensures.cases in
    let sender = rw c.in_ok-sender.ensures.ok_part at c.as_array.ensures.cases in
    let none = c.in_err-ours.ensures in
    let why = answers_why _ _ _ _ none.ok_part none.value c.from_residual-in_err-ours.ensures.1 in
    ours_size_wrong _ (search rules) _ _ _ _ _ _ _ _ _ _ held _ deliver _ reply _ sender (rw none.ok_part at c.as_array-2.ensures.cases) why

pub returns-then-not-is_formed : goal.returns-then-not-is_formed
returns-then-not-is_formed c =
    let held = rw c.in_ok-held.ensures.ok_part at c.as_mut_array.ensures.cases in
    let deliver = rw c.in_ok-deliver.ensures.ok_part at c.as_mut_array-2.ensures.cases in
    let reply = rw c.in_ok-reply.ensures.ok_part at c.as_mut_array-3.ensures.cases in
    let sender = rw c.in_ok-sender.ensures.ok_part at c.as_array.ensures.cases in
    let ours = rw c.in_ok-ours.ensures.ok_part at c.as_array-2.ensures.cases in
    table_wrong _ (search rules) _ _ _ _ _ _ _ _ _ _ held _ deliver _ reply _ sender _ ours _ c.is_formed.ensures (search rules) (search rules)

pub take_message-requires : goal.take_message-requires
take_message-requires c = sym c.is_formed.ensures ∙ not-false _ (search rules)

pub returns : goal.returns
returns c =
    let held = rw c.in_ok-held.ensures.ok_part at c.as_mut_array.ensures.cases in
    let deliver = rw c.in_ok-deliver.ensures.ok_part at c.as_mut_array-2.ensures.cases in
    let reply = rw c.in_ok-reply.ensures.ok_part at c.as_mut_array-3.ensures.cases in
    let sender = rw c.in_ok-sender.ensures.ok_part at c.as_array.ensures.cases in
    let ours = rw c.in_ok-ours.ensures.ok_part at c.as_array-2.ensures.cases in
    call_asked _ (search rules) _ _ _ _ _ _ _ _ _ _ held _ deliver _ reply _ sender _ ours _ c.is_formed.ensures (search rules) _ _ c.cid_at-from.ensures c.cid_at-own.ensures _ _ _ c.take_message.ensures
