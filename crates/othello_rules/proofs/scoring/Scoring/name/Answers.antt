use Rattle.std.proofs.Common.{refl}
use Rattle.othello_rules.proofs.scoring.Scoring.name.Goals as goal

pub returns-in-Winner : goal.returns-in-Winner
returns-in-Winner c = rw c.in-Winner.is refl
