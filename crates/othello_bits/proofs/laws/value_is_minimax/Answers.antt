use Rattle.othello_bits.proofs.GameLaws as laws
use Rattle.othello_bits.proofs.MaskMeaning.{IsMove-on_board}
use Rattle.othello_bits.proofs.laws.value_is_minimax.Goals as goal

pub returns : goal.returns
returns c = record {
  over = laws.value-over;
  passed = laws.value-pass;
  at_least = laws.value_above;
  attained = laws.value_reached;
  in_range = laws.value_score;
  on_board = IsMove-on_board;
  room = laws.empties_positive;
  filled = laws.empties-play;
  kept = laws.empties-pass;
}
