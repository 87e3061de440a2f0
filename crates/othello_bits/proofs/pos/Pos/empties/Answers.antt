use Rattle.othello_rules.specs.declared.discs.Side.TheVariants.{Black}
use Rattle.othello_bits.specs.Pos.{empties_of}
use Rattle.othello_bits.proofs.CountMeaning.{free-meaning}
use Rattle.othello_bits.proofs.pos.Pos.empties.Goals as goal

pub returns-clause-squares : goal.returns-clause-squares
returns-clause-squares c = rw (← c.self.view_is) (λ s. free-meaning s c.self.inside.own c.self.inside.opp c.self.invariant.1 c.self.invariant.2)

pub returns-clause-value : goal.returns-clause-value
unfolding empties_of
returns-clause-value c = returns-clause-squares c Black
