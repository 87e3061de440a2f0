use Rattle.othello_rules.proofs.ValueLaws.{value-over, value-pass, value-move}
use Rattle.othello_rules.proofs.BoundLaws.{can_move-moves_none, can_move-moves_some, worth-le-value, value_reached}
use Rattle.othello_rules.proofs.RangeLaws.{value-IsScore}
use Rattle.othello_rules.specs.Rules.{pass}
use Rattle.othello_rules.specs.Value.{best_worth}
use Rattle.othello_rules.proofs.laws.value_is_minimax.Goals as goal

pub returns : goal.returns
unfolding best_worth
returns c = record {
  over = λ g P h. value-over g P (can_move-moves_none P h.0) (can_move-moves_none (pass P) h.1);
  passed = λ g P h k. value-pass g P (can_move-moves_none P h) (can_move-moves_some (pass P) k);
  moved = λ g P h. value-move g P (can_move-moves_some P h);
  at_least = λ g P q h. worth-le-value g P q h;
  attained = λ g P h. value_reached g P (can_move-moves_some P h);
  in_range = λ g P h. value-IsScore g P h;
}
