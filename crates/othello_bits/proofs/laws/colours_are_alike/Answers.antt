use Rattle.othello_rules.specs.declared.discs.Side.TheVariants.{Black}
use Rattle.othello_bits.specs.Pos.{value_of, answer_of}
use Rattle.othello_bits.proofs.ColourMeaning.{value-either, answer-either}
use Rattle.othello_bits.proofs.laws.colours_are_alike.Goals as goal

pub returns : goal.returns
unfolding value_of answer_of
returns c = record {
  value = λ g s p. value-either g s Black p;
  answer = λ g s p. answer-either g s Black p;
}
