use Rattle.std.proofs.Common.{refl}
use Rattle.othello_rules.proofs.square.Square.at.Goals as goal

pub returns : goal.returns
returns c = refl
