-- It writes the eight free records.
use Rattle.std.proofs.Common.{refl}
use Rattle.table.specs.Table.{free_table}
use Rattle.table.proofs.free_table.Goals as goal

pub returns : goal.returns
unfolding free_table
returns c = refl
