use Rattle.othello_rules.proofs.ScoringLaws.{signum-value, best_under_sign}
use Rattle.othello_rules.proofs.laws.scorings_agree.Goals as goal

pub returns : goal.returns
returns c = record {
  value = signum-value;
  best = best_under_sign;
}
