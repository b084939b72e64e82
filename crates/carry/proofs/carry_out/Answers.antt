-- `carry_out` meets its contract: what is released follows the wrapper itself. Assumes nothing.
use Rattle.carry.proofs.Carrying.{first_most, all_listed, all_written}
use Rattle.carry.proofs.carry_out.Goals as goal

pub deliver_held-requires : goal.deliver_held-requires
deliver_held-requires c =
    let few = first_most c.args.w c.args.contents.now c.args.plan _ c.carry_itself-first.ensures.0 in
    (c.requires.0, c.requires.1, few)

pub returns : goal.returns
returns c = search (all_listed, all_written, c.carry_itself-first.ensures, c.deliver_held.ensures)
