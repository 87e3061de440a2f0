use Rattle.othello_rules.proofs.square.SquareDefault.default.Goals as goal

pub returns : goal.returns
returns c = c.at.ensures
