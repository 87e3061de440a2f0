use Rattle.std.proofs.Common.{ap}
use Rattle.othello_bits.proofs.pos.Pos.own.Goals as goal

pub returns : goal.returns
returns c = ap (λ p. p.own) c.self.view_is
