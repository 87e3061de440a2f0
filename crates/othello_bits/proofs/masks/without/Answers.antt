use Rattle.std.proofs.Common.{◌∙◌, ◌&&◌, eqb, ap}
use Rattle.std.specs.Prelude.{not}
use Rattle.othello_rules.specs.Masks.{in_mask}
use Rattle.othello_bits.proofs.Loops.{in_mask-without}
use Rattle.othello_bits.proofs.masks.without.Goals as goal

pub returns : goal.returns
returns c = λ i.
    in_mask-without c.args.mask c.number.result i c.ranges.mask.fits c.number.ensures.on_board
    ∙ ap (λ q. in_mask c.args.mask i && not (eqb q i)) c.number.ensures.value
