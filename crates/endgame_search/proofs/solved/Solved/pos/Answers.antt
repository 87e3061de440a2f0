use Rattle.std.proofs.Common.{ap}
use Rattle.endgame_search.proofs.solved.Solved.pos.Goals as goal

pub returns : goal.returns
returns c = ap (λ p. p.position) c.self.view_is
