-- `held_apart` meets its contract. Assumes nothing.
use Rattle.std.proofs.Common.{rules, ◌∙◌}
use Rattle.record.specs.WellFormed.{apart}
use Rattle.record.proofs.Formed.{held_apart_is}
use Rattle.record.proofs.held_apart.Goals as goal

pub returns : goal.returns
returns c = c.all_apart.ensures apart (λ p q answer k. search rules) ∙ held_apart_is _
