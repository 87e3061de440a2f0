use Rattle.std.proofs.Common.{◌≡◌, arith, ◌∙◌, ap, sym, to_z, of_z, w8, not, ◌||◌}
use Rattle.std.specs.List.{count_by}
use Rattle.std.proofs.lemmas.Int.{ints}
use Rattle.othello_rules.specs.declared.discs.Side.TheVariants.{Black}
use Rattle.othello_rules.specs.declared.discs.Cell.TheVariants.{Empty}
use Rattle.othello_rules.specs.Board.{squares}
use Rattle.othello_rules.specs.Rules as rules
use Rattle.othello_rules.specs.Scores as scores
use Rattle.othello_rules.specs.Masks.{in_mask}
use Rattle.othello_bits.specs.Pos.{discs, final_of, position_of}
use Rattle.othello_bits.proofs.Bits.{empty_meet}
use Rattle.othello_bits.proofs.TurnedMasks.{ones_count, partition}
use Rattle.othello_bits.proofs.PlayMeaning.{apart-masks}
use Rattle.othello_bits.proofs.CountMeaning.{count-empty, final-meaning}
use Rattle.othello_bits.proofs.pos.Pos.final_score.Goals as goal

pub score-requires : goal.score-requires
score-requires c =
    let own = c.self.inside.own in
    let opp = c.self.inside.opp in
    let free : c.empties.result ≡ count_by (λ i. not (in_mask own i || in_mask opp i)) squares =
    c.empties.ensures.squares Black ∙ ap (λ p. rules.count_of (position_of Black p) Empty) (sym c.self.view_is) ∙ count-empty Black (discs own opp) in
    omega (
      arith,
      ones_count own c.self.invariant.1,
      ones_count opp c.self.invariant.2,
      free,
      partition (in_mask own) (in_mask opp) (empty_meet own opp c.self.invariant.0),
    )

pub returns-clause-meaning : goal.returns-clause-meaning
returns-clause-meaning c =
    let own = c.self.inside.own in
    let opp = c.self.inside.opp in
    let free =
    c.empties.ensures.squares Black ∙ ap (λ p. rules.count_of (position_of Black p) Empty) (sym c.self.view_is) ∙ count-empty Black (discs own opp) in
    let kept : to_z w8 (of_z w8 c.score.result) ≡ c.score.result = omega (arith, ints) in
    rw (← c.self.view_is) (λ s.
    kept
    ∙ c.score.ensures.value
    ∙ (λ k. scores.score_of c.args.scoring (ones_count own c.self.invariant.1 k) (ones_count opp c.self.invariant.2 k) (free k))
    ∙ sym (final-meaning c.args.scoring s (discs own opp) (apart-masks own opp c.self.invariant)))

pub returns-clause-value : goal.returns-clause-value
unfolding final_of
returns-clause-value c = returns-clause-meaning c Black
