use Rattle.std.proofs.Common.{refl}
use Rattle.othello_rules.specs.Masks.{in_mask}
use Rattle.othello_bits.specs.Exchanges.{exchange_source, exchanges}
use Rattle.othello_bits.specs.Symmetries.{target}
use Rattle.othello_bits.specs.declared.sym.Sym.TheVariants.{FlipRows}
use Rattle.othello_bits.proofs.Permute.{by_three}
use Rattle.othello_bits.proofs.sym.mirror_rows.Goals as goal

pub returns : goal.returns
unfolding in_mask exchange_source exchanges
returns c =
    by_three c.args.board _ _ _ (exchanges 0xff00ff00ff00ff 8) (exchanges 0xffff0000ffff 16) (exchanges 0xffffffff 32)
    (exchange_source 0xff00ff00ff00ff 8) (exchange_source 0xffff0000ffff 16) (exchange_source 0xffffffff 32)
    (target FlipRows) c.exchange-rows.ensures c.exchange-pairs.ensures c.exchange.ensures refl
