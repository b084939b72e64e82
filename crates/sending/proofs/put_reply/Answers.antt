-- An ACK is short and has a form. Assumes nothing.
use native.Mathlib.Omega.{arith}
use Rattle.sending.proofs.Messages.{ack_fits}
use Rattle.sending.proofs.put_reply.Goals as goal

pub put_message-requires : goal.put_message-requires
put_message-requires c = ack_fits _ _ (omega arith)
