use Rattle.std.proofs.Common.{ap}
use Rattle.endgame_search.proofs.task.Task.pos.Goals as goal

pub returns-clause-value : goal.returns-clause-value
returns-clause-value c = ap (λ p. p.position) c.self.view_is
