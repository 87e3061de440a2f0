use Rattle.std.proofs.Common.{◌∙◌, ap, ◌&&◌, ◌||◌, bit_or}
use Rattle.othello_rules.specs.Masks.{in_mask}
use Rattle.othello_bits.specs.Shifts.{back, can}
use Rattle.othello_bits.proofs.Bits.{in_mask-or}
use Rattle.othello_bits.proofs.mobility.Direction.held.Goals as goal

pub returns : goal.returns
returns c = λ i.
    let found = in_mask c.args.found in
    in_mask-or c.args.alone (bit_or c.shifted.result c.shifted-2.result) i
    ∙ ap (λ b. in_mask c.args.alone i || b)
    (in_mask-or c.shifted.result c.shifted-2.result i
    ∙ (λ k. c.shifted.ensures i k || (c.shifted-2.ensures i ∙ ap (λ d. can d i && found (back d i)) c.opposite.ensures) k))
