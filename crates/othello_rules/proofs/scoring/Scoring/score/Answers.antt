use Rattle.std.proofs.Common.{rules}
use Rattle.othello_rules.proofs.scoring.Scoring.score.Goals as goal

pub returns-in-Discs-clause-value : goal.returns-in-Discs-clause-value
returns-in-Discs-clause-value c = search rules
