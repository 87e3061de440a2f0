use Rattle.std.proofs.Common.{refl}
use Rattle.othello_rules.specs.Masks.{in_mask}
use Rattle.othello_bits.specs.Exchanges.{swap_source, swaps}
use Rattle.othello_bits.specs.Symmetries.{target}
use Rattle.othello_bits.specs.declared.sym.Sym.TheVariants.{Transpose}
use Rattle.othello_bits.proofs.Permute.{by_three}
use Rattle.othello_bits.proofs.sym.transpose.Goals as goal

pub returns : goal.returns
unfolding in_mask swap_source swaps
returns c =
    by_three c.args.board _ _ _ (swaps 0xaa00aa00aa00aa 7) (swaps 0xcccc0000cccc 14) (swaps 0xf0f0f0f0 28)
    (swap_source 0xaa00aa00aa00aa 7) (swap_source 0xcccc0000cccc 14) (swap_source 0xf0f0f0f0 28)
    (target Transpose) c.swap-squares.ensures c.swap-blocks.ensures c.swap.ensures refl
