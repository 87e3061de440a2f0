use Rattle.othello_bits.proofs.EndMasks.{ahead_of}
use Rattle.othello_bits.proofs.flips.flips_ahead.Goals as goal

pub returns : goal.returns
returns c = λ met ray. ahead_of c.args.own c.args.opp c.args.ray c.ranges.opp.fits c.ranges.ray.fits met ray
