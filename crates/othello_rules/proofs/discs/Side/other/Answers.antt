use Rattle.std.proofs.Common.{refl}
use Rattle.othello_rules.proofs.discs.Side.other.Goals as goal

pub returns-in-Black : goal.returns-in-Black
returns-in-Black c = rw c.in-Black.is refl
