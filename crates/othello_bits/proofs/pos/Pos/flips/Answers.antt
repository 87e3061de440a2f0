use Rattle.std.proofs.Common.{◌∙◌, ◌&&◌, not, ap}
use Rattle.std.specs.List.{list_any}
use Rattle.othello_rules.specs.declared.discs.Side.TheVariants.{Black}
use Rattle.othello_rules.specs.Rules as rules
use Rattle.othello_rules.specs.Rules.{turned_on}
use Rattle.othello_rules.specs.Masks.{in_mask}
use Rattle.othello_bits.specs.Shifts.{lines}
use Rattle.othello_bits.specs.Pos.{mem, discs, position_of, flips_of}
use Rattle.othello_bits.proofs.TurnedMasks.{zero_from_none}
use Rattle.othello_bits.proofs.TestMasks.{is_where}
use Rattle.othello_bits.proofs.MoveMeaning.{is_turned-meaning}
use Rattle.othello_bits.proofs.PlayMeaning.{apart-masks}
use Rattle.othello_bits.proofs.pos.Pos.flips.Goals as goal

pub returns-clause-squares : goal.returns-clause-squares
returns-clause-squares c =
    let own = c.self.inside.own in
    let opp = c.self.inside.opp in
    let p = discs own opp in
    let fine = apart-masks own opp c.self.invariant in
    rw (← c.self.view_is, ← c.number.ensures.value)
    (λ s i. c.flips.ensures i ∙ is_turned-meaning s p fine c.number.result i c.number.ensures.on_board)

pub returns-clause-occupied : goal.returns-clause-occupied
returns-clause-occupied c =
    rw (← c.self.view_is, ← c.number.ensures.value)
    (λ taken.
    zero_from_none c.flips.result c.flips.type_inv
    (λ i h. c.flips.ensures i
    ∙ ap (λ b. not b && list_any (λ met. mem i (turned_on (in_mask c.self.inside.own) (in_mask c.self.inside.opp) met)) (lines c.number.result)) taken))

pub returns-clause-value : goal.returns-clause-value
unfolding flips_of
returns-clause-value c =
    is_where c.flips.result (λ i. mem i (rules.flips (position_of Black c.args.self) c.args.square)) c.flips.type_inv (λ i l. returns-clause-squares c Black i)
