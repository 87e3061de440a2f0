use Rattle.std.proofs.Common.{rules}
use Rattle.othello_rules.proofs.grid.Grid.pass.Goals as goal

pub returns : goal.returns
returns c = search rules
