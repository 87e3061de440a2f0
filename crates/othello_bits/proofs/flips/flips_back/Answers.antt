use Rattle.othello_bits.proofs.EndMasks.{back, shift_fits}
use Rattle.othello_bits.proofs.RunEnds.{rest, rest_fits}
use Rattle.othello_bits.proofs.flips.flips_back.Goals as goal

pub overflow_shr-end : goal.overflow_shr-end
overflow_shr-end c = shift_fits (rest c.args.opp c.args.ray) (rest_fits c.args.opp c.args.ray)

pub returns : goal.returns
returns c = λ met ray. back c.args.own c.args.opp c.args.ray c.ranges.opp.fits c.ranges.ray.fits met ray
