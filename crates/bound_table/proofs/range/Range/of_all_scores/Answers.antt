use Rattle.std.proofs.Common.{rules}
use Rattle.bound_table.proofs.range.Range.of_all_scores.Goals as goal

pub returns : goal.returns
returns c = search rules
