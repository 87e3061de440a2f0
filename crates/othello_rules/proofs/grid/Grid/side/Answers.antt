use Rattle.std.proofs.Common.{ap}
use Rattle.othello_rules.proofs.grid.Grid.side.Goals as goal

pub returns-clause-value : goal.returns-clause-value
returns-clause-value c = ap (λ p. p.mover) c.self.view_is
