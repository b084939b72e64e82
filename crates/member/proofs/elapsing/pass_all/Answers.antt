-- Each turn moves the next record, and after the last one all have moved.
use Rattle.std.proofs.Common.{rules}
use Rattle.member.proofs.Passing.{begun, next_formed, turned, all_passed}
use Rattle.member.proofs.elapsing.pass_all.Goals as goal

pub loop-i-init : goal.loop-i-init
loop-i-init c = begun _ _ _ (search rules) (search rules) c.requires.0

pub pass_one-after-requires : goal.pass_one-after-requires
pass_one-after-requires c = (search rules, next_formed _ _ _ _ _ _ c.loop-i.invariant (search rules), search rules)

pub loop-i-preserved : goal.loop-i-preserved
loop-i-preserved c = turned _ _ _ _ _ _ c.loop-i.invariant (search rules) _ _ c.pass_one-after.ensures

pub returns : goal.returns
returns c = all_passed _ _ _ _ _ _ c.loop-i.invariant (search rules)
