use Rattle.std.proofs.Common.{◌∙◌, ◌^◌, ◌/◌, ap, nat_eq, bit_and}
use Rattle.std.proofs.lemmas.Nat.Bits.{shr_and_one}
use Rattle.othello_rules.specs.Masks.{in_mask}
use Rattle.othello_rules.proofs.masks.has_square.Goals as goal

pub returns : goal.returns
unfolding in_mask
returns c =
    ap (λ q. nat_eq (bit_and (c.args.mask / 2 ^ q) 1) 1) c.number.ensures.value
    ∙ ap (λ b. nat_eq b 1) (shr_and_one c.args.mask c.args.square)
