use Rattle.std.proofs.Common.{refl}
use Rattle.othello_rules.specs.Masks.{in_mask}
use Rattle.othello_bits.specs.Exchanges.{exchange_source, exchanges}
use Rattle.othello_bits.specs.Symmetries.{target}
use Rattle.othello_bits.specs.declared.sym.Sym.TheVariants.{FlipColumns}
use Rattle.othello_bits.proofs.Permute.{by_three}
use Rattle.othello_bits.proofs.sym.mirror_columns.Goals as goal

pub returns : goal.returns
unfolding in_mask exchange_source exchanges
returns c =
    by_three c.args.board _ _ _ (exchanges 0x5555555555555555 1) (exchanges 0x3333333333333333 2)
    (exchanges 0xf0f0f0f0f0f0f0f 4) (exchange_source 0x5555555555555555 1) (exchange_source 0x3333333333333333 2)
    (exchange_source 0xf0f0f0f0f0f0f0f 4) (target FlipColumns) c.exchange-bits.ensures c.exchange-pairs.ensures c.exchange.ensures refl
