-- Each answer is that of what the message asks.
use Rattle.std.proofs.Common.{◌≡◌, length, arith, rules}
use Rattle.message.specs.Reading.{contents}
use Rattle.member.proofs.Lent.{passes_on}
use Rattle.member.proofs.Messaging.{answers_as, refused_answers, join_answers, asks_for, steps, behind_fields}
use Rattle.member.proofs.messages.take_message.Goals as goal

pub slice_bounds-take_wrapper-count : goal.slice_bounds-take_wrapper-count
slice_bounds-take_wrapper-count c =
    (steps _ _ _ _ _ _ c.asks.ensures _ _ (rw c.in-Wrapper.is at c.in_ok-asked.was) c.requires).own

pub slice_bounds-take_wrapper-start : goal.slice_bounds-take_wrapper-start
slice_bounds-take_wrapper-start c =
    (steps _ _ _ _ _ _ c.asks.ensures _ _ (rw c.in-Wrapper.is at c.in_ok-asked.was) c.requires).own

pub take_wrapper-requires-clause-at_bound : goal.take_wrapper-requires-clause-at_bound
take_wrapper-requires-clause-at_bound c =
    let eight : length c.args.table ≡ 8 = search rules in
    let t = steps _ _ _ _ _ _ c.asks.ensures _ _ (rw c.in-Wrapper.is at c.in_ok-asked.was) c.requires in
    (omega (arith, t.within), t.used, t.well)

pub take_wrapper-requires-clause-len_value : goal.take_wrapper-requires-clause-len_value
take_wrapper-requires-clause-len_value c =
    let t = steps _ _ _ _ _ _ c.asks.ensures _ _ (rw c.in-Wrapper.is at c.in_ok-asked.was) c.requires in
    (rw (behind_fields c.args.body.now) t.len, t.fits)

pub returns-in_err-asked : goal.returns-in_err-asked
returns-in_err-asked c =
    let a = c.args in
    let out = asks_for _ _ _ _ _ _ c.asks.ensures a.held.now (contents a.body.now) a.reciprocal _ c.in_err-asked.was in
    answers_as _ _ _ _ _ _ _ _ out (refused_answers a.table a.held.now _ _ _ _ (passes_on _ _ c.from_residual.ensures.1))

pub returns-in-Join : goal.returns-in-Join
returns-in-Join c =
    let a = c.args in
    let out = asks_for _ _ _ _ _ _ c.asks.ensures a.held.now (contents a.body.now) a.reciprocal _ (rw c.in-Join.is at c.in_ok-asked.was) in
    answers_as _ _ _ _ _ _ _ _ out (join_answers a.table _ _ a.reply.now _ _ _ a.reciprocal _ c.take_join.ensures)

pub returns-in-Wrapper : goal.returns-in-Wrapper
returns-in-Wrapper c =
    let a = c.args in
    let out = asks_for _ _ _ _ _ _ c.asks.ensures a.held.now (contents a.body.now) a.reciprocal _ (rw c.in-Wrapper.is at c.in_ok-asked.was) in
    answers_as _ _ _ _ _ _ _ _ out (rw (behind_fields a.body.now) at c.take_wrapper.ensures)
