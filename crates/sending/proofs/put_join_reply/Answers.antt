-- A Join Refuse and a Join Accept are short and have a form. Assumes nothing.
use Rattle.sending.proofs.Messages.{refuse_fits, accept_fits}
use borrow.Author.Rules.{rules}
use Rattle.sending.proofs.put_join_reply.Goals as goal

pub put_message-requires : goal.put_message-requires
put_message-requires c = refuse_fits _ _ (search rules) _ _ _ c.join_refuse_of.ensures

pub put_message-requires-in-Again : goal.put_message-requires-in-Again
put_message-requires-in-Again c = accept_fits _ _ (search rules) _ _ _ _ c.acceptance_of.ensures
