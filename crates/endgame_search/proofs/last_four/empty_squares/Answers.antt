use Rattle.std.proofs.Common.{◌∙◌, not, ◌||◌, ap, bit_or, ◌<◌, ◌^◌}
use Rattle.std.proofs.lemmas.Nat.{or_lt}
use Rattle.othello_rules.specs.declared.discs.Side.TheVariants.{Black}
use Rattle.othello_rules.specs.Masks.{in_mask}
use Rattle.othello_bits.specs.Pos.{discs, empties_of}
use Rattle.othello_bits.proofs.Bits.{in_mask-or, in_mask-not}
use Rattle.othello_bits.proofs.CountMeaning.{free-meaning}
use Rattle.endgame_search.proofs.LastSquareLemmas.{empty_mask, empty_below}
use Rattle.endgame_search.proofs.last_four.empty_squares.Goals as goal

pub returns-clause-squares : goal.returns-clause-squares
returns-clause-squares c = λ q h.
    let p = c.args.position in
    let fits : bit_or c.own.result c.opp.result < 2 ^ 64 = or_lt 64 c.own.result c.opp.result c.own.type_inv c.opp.type_inv in
    in_mask-not (bit_or c.own.result c.opp.result) q fits (empty_below p q h)
    ∙ ap not (in_mask-or c.own.result c.opp.result q ∙ (λ k. in_mask (c.own.ensures k) q || in_mask (c.opp.ensures k) q))
    ∙ empty_mask p q h

pub returns-clause-count : goal.returns-clause-count
unfolding empties_of
returns-clause-count c =
    free-meaning Black c.own.result c.opp.result c.own.type_inv c.opp.type_inv ∙ (λ k. empties_of (discs (c.own.ensures k) (c.opp.ensures k)))
