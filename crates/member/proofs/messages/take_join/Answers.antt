-- `join_done_lem` puts the answers of the calls together.
use Rattle.member.proofs.Joins.{join_done_lem}
use Rattle.member.proofs.messages.take_join.Goals as goal

pub returns : goal.returns
returns c =
    let a = c.args in
    let done = join_done_lem a.table a.sender a.j a.reciprocal _ _ _ _ _ _ _ _ _ a.reply.now _ in
    done c.find-known.ensures.first c.find_free-free.ensures.first c.existing_at.ensures c.is_some.ensures c.decide-decision.ensures
    c.table_after-after.ensures c.put_join_reply.ensures c.no_deliveries.ensures c.joined_at.ensures
