use Rattle.std.proofs.Common.{subst}
use Rattle.othello_bits.specs.Pos.{AreStable}
use Rattle.othello_bits.proofs.StableMasks.{value_of-most}
use Rattle.othello_bits.proofs.pos.Pos.stable_opp.Goals as goal

pub returns-clause-at_most : goal.returns-clause-at_most
returns-clause-at_most c = λ g z some enough.
    value_of-most g c.args.self c.stable_opp.result z c.stable_opp.type_inv
    (subst (λ p. AreStable p c.stable_opp.result) c.self.view_is c.stable_opp.ensures) some enough
