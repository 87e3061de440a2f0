use Rattle.std.proofs.Common.{rules}
use Rattle.bound_table.proofs.range.Range.low.Goals as goal

pub returns-clause-value : goal.returns-clause-value
returns-clause-value c = search rules
