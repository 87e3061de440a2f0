use Rattle.othello_bits.proofs.RayMasks.{turned_back}
use Rattle.othello_bits.proofs.flips.flips_turned_over.Goals as goal

pub returns : goal.returns
returns c =
    λ met ray. turned_back c.args.own c.args.opp c.mirror_rows.result c.mirror_rows-2.result c.flips_ahead.result
    c.mirror_rows-3.result c.ranges.opp.fits c.mirror_rows-3.type_inv c.mirror_rows.ensures c.mirror_rows-2.ensures
    c.mirror_rows-3.ensures met ray.0 (c.flips_ahead.ensures met ray)
