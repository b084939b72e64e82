-- `sending::put_message` meets its contract: a message that has a form and fits is never refused. Assumes nothing.
use Rattle.sending.proofs.Puts.{is_written, all_written}
use Rattle.sending.proofs.put_message.Goals as goal

pub unwrap-requires : goal.unwrap-requires
unwrap-requires c = is_written _ _ _ _ c.requires c.write_message.ensures

pub returns : goal.returns
returns c = all_written _ _ _ _ c.requires c.write_message.ensures _ c.unwrap.ensures
