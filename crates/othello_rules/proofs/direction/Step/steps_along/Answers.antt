use Rattle.std.proofs.Common.{refl}
use Rattle.othello_rules.proofs.direction.Step.steps_along.Goals as goal

pub returns-in-Ahead-clause-value : goal.returns-in-Ahead-clause-value
returns-in-Ahead-clause-value c = rw c.in-Ahead.is refl
