-- A NAK is short and has a form. Assumes nothing.
use Rattle.sending.proofs.Messages.{nak_fits}
use borrow.Author.Rules.{rules}
use Rattle.sending.proofs.put_event.Goals as goal

pub put_message-requires : goal.put_message-requires
put_message-requires c = nak_fits _ _ (search rules) _ _ _ _ c.nak_of.ensures
