use Rattle.othello_bits.specs.Shifts.{line}
use Rattle.othello_bits.specs.declared.mobility.Direction.TheVariants.{West}
use Rattle.othello_bits.proofs.RayMasks.{west}
use Rattle.othello_bits.proofs.flips.to_west.Goals as goal

pub returns : goal.returns
returns c = c.flips_back.ensures (line West c.args.square) (west c.args.square c.requires)
