use Rattle.othello_rules.proofs.ColourLaws.{moves-swapped, value-swapped}
use Rattle.othello_rules.proofs.ColourAnswers.{answer-swapped}
use Rattle.othello_rules.proofs.laws.colours_are_alike.Goals as goal

pub returns : goal.returns
returns c = record {
  moves = moves-swapped;
  value = value-swapped;
  answer = answer-swapped;
}
