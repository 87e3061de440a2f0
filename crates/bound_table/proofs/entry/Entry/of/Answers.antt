use Rattle.std.proofs.Common.{rules}
use Rattle.bound_table.proofs.entry.Entry.of.Goals as goal

pub returns-clause-position : goal.returns-clause-position
returns-clause-position c = search rules
