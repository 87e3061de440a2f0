use Rattle.othello_bits.specs.Shifts.{line}
use Rattle.othello_bits.specs.declared.mobility.Direction.TheVariants.{East}
use Rattle.othello_bits.proofs.RayMasks.{east}
use Rattle.othello_bits.proofs.flips.to_east.Goals as goal

pub returns : goal.returns
returns c = c.flips_ahead.ensures (line East c.args.square) (east c.args.square c.requires)
