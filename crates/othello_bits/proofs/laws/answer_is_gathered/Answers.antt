use Rattle.othello_bits.proofs.AnswerLaws.{answer-is}
use Rattle.othello_bits.proofs.laws.answer_is_gathered.Goals as goal

pub returns : goal.returns
returns c = answer-is
