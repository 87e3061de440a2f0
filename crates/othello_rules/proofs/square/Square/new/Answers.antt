use Rattle.std.proofs.Common.{refl}
use Rattle.othello_rules.proofs.square.Square.new.Goals as goal

pub returns-then-number-lt64-clause-valid : goal.returns-then-number-lt64-clause-valid
returns-then-number-lt64-clause-valid c = (λ s. c.if-number-lt64.true, λ h. refl)
