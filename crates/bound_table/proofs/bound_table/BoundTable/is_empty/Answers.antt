use Rattle.std.proofs.Common.{rules}
use Rattle.bound_table.proofs.bound_table.BoundTable.is_empty.Goals as goal

pub returns : goal.returns
returns c = search rules
