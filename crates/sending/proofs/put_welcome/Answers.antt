-- `sending::put_welcome` meets its contract: the ACK goes into what is behind the Join Accept, so that both are one write. Assumes nothing.
use native.Mathlib.Omega.{arith}
use Rattle.sending.proofs.Puts.{rest_length, same_put}
use Rattle.sending.proofs.Messages.{ack_fits, accept_fits, ack_taken, accept_taken, welcome_put}
use borrow.Author.Rules.{rules}
use Rattle.sending.proofs.put_welcome.Goals as goal

pub put_message-accepted-requires : goal.put_message-accepted-requires
put_message-accepted-requires c = accept_fits _ _ (search rules) _ _ _ _ c.acceptance_of-accept.ensures

pub slice_bounds-put_message-count : goal.slice_bounds-put_message-count
slice_bounds-put_message-count c = omega (arith, accept_taken _ _ _ _ _ _ c.acceptance_of-accept.ensures c.put_message-accepted.ensures.0)

pub slice_bounds-put_message-start : goal.slice_bounds-put_message-start
slice_bounds-put_message-start c = omega (arith, accept_taken _ _ _ _ _ _ c.acceptance_of-accept.ensures c.put_message-accepted.ensures.0)

pub put_message-acked-requires : goal.put_message-acked-requires
put_message-acked-requires c = ack_fits _ _ (rw rest_length (omega (arith, accept_taken _ _ _ _ _ _ c.acceptance_of-accept.ensures c.put_message-accepted.ensures.0)))

pub overflow_add-result : goal.overflow_add-result
overflow_add-result c = record { fits = omega (arith, accept_taken _ _ _ _ _ _ c.acceptance_of-accept.ensures c.put_message-accepted.ensures.0, ack_taken _ _ c.put_message-acked.ensures.0) }

pub returns : goal.returns
returns c =
    let accepted = same_put _ _ _ _ _ c.put_message-accepted.ensures c.acceptance_of-accept.ensures in
    welcome_put _ _ _ _ _ _ _ _ _ _ c.requires accepted c.put_message-acked.ensures (search) (search)
