use Rattle.std.proofs.Common.{refl}
use Rattle.othello_rules.proofs.grid.Grid.new.Goals as goal

pub returns : goal.returns
returns c = refl
