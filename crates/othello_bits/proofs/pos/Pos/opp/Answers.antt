use Rattle.std.proofs.Common.{ap}
use Rattle.othello_bits.proofs.pos.Pos.opp.Goals as goal

pub returns : goal.returns
returns c = ap (λ p. p.opp) c.self.view_is
