use Rattle.std.proofs.Common.{◌∙◌, ◌||◌, eqb, ap}
use Rattle.othello_rules.specs.Masks.{in_mask}
use Rattle.othello_bits.proofs.Loops.{in_mask-including}
use Rattle.othello_bits.proofs.masks.including.Goals as goal

pub returns : goal.returns
returns c = λ i.
    in_mask-including c.args.mask c.number.result i c.number.ensures.on_board
    ∙ ap (λ q. in_mask c.args.mask i || eqb q i) c.number.ensures.value
