use Rattle.othello_bits.specs.Pos.{discs}
use Rattle.othello_bits.proofs.PlayMeaning.{apart-masks, pass-meaning, swapped}
use Rattle.othello_bits.proofs.MaskMeaning.{pass_of-is}
use Rattle.othello_bits.proofs.pos.Pos.pass.Goals as goal

pub invariant_of-result : goal.invariant_of-result
invariant_of-result c = swapped c.self.inside.own c.self.inside.opp c.self.invariant

pub returns-clause-meaning : goal.returns-clause-meaning
returns-clause-meaning c =
    let own = c.self.inside.own in
    let opp = c.self.inside.opp in
    let p = discs own opp in
    let fine = apart-masks own opp c.self.invariant in
    rw (← c.self.view_is) (λ s. pass-meaning s p fine)

pub returns-clause-value : goal.returns-clause-value
returns-clause-value c =
    let own = c.self.inside.own in
    let opp = c.self.inside.opp in
    let p = discs own opp in
    let fine = apart-masks own opp c.self.invariant in
    rw (← c.self.view_is) (pass_of-is p fine (apart-masks opp own (swapped own opp c.self.invariant)))
