use Rattle.std.proofs.Common.{refl}
use Rattle.othello_rules.specs.Board.{name_of}
use Rattle.othello_rules.proofs.square.Square.name.Goals as goal

pub returns : goal.returns
unfolding name_of
returns c = rw (c.number.ensures.value, c.number-2.ensures.value) refl
