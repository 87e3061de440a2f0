use Rattle.std.proofs.Common.{◌∙◌}
use Rattle.othello_bits.specs.Pos.{discs}
use Rattle.othello_bits.proofs.MoveMeaning.{is_move-meaning}
use Rattle.othello_bits.proofs.PlayMeaning.{apart-masks}
use Rattle.othello_bits.proofs.MaskMeaning.{moves_of-is}
use Rattle.othello_bits.proofs.pos.Pos.moves.Goals as goal

pub returns-clause-squares : goal.returns-clause-squares
returns-clause-squares c =
    let own = c.self.inside.own in
    let opp = c.self.inside.opp in
    let p = discs own opp in
    let fine = apart-masks own opp c.self.invariant in
    rw (← c.self.view_is) (λ s q h. c.moves.ensures q h ∙ is_move-meaning s p fine q h)

pub returns-clause-value : goal.returns-clause-value
returns-clause-value c =
    let own = c.self.inside.own in
    let opp = c.self.inside.opp in
    let p = discs own opp in
    let fine = apart-masks own opp c.self.invariant in
    rw (← c.self.view_is) (moves_of-is p c.moves.result c.moves.type_inv fine c.moves.ensures)
