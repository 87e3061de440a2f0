use Rattle.std.proofs.Common.{arith}
use Rattle.std.proofs.lemmas.Grind.{common_steps}
use Rattle.othello_rules.specs.Board.{name_of}
use Rattle.othello_rules.proofs.square.Square.from_name.Goals as goal

pub returns-in-49-to-56-clause-named : goal.returns-in-49-to-56-clause-named
unfolding name_of
returns-in-49-to-56-clause-named c = grind (arith, common_steps)

pub returns-in-49-to-56-clause-all : goal.returns-in-49-to-56-clause-all
unfolding name_of
returns-in-49-to-56-clause-all c = grind (arith, common_steps)
