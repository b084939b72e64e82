-- The record's step is the one of `elapsed_of`, and what it sends lies in its part of the cells.
use Rattle.std.proofs.Common.{rules}
use Rattle.member.proofs.Passing.{one_passed}
use Rattle.member.proofs.elapsing.pass_one.Goals as goal

pub returns : goal.returns
returns c = one_passed c.args.before c.args.i c.args.ms _ _ _ _ (search rules) (search rules) c.elapsed_step-step.ensures c.put_event-len.ensures
