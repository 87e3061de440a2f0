use Rattle.std.proofs.Common.{refl}
use Rattle.othello_bits.proofs.sym.Sym.inverse.Goals as goal

pub returns-in-TurnLeft : goal.returns-in-TurnLeft
returns-in-TurnLeft c = rw c.in-TurnLeft.is refl
