use Rattle.othello_bits.proofs.LineCounts.{in_falling}
use Rattle.othello_bits.proofs.last_flip.in_falling.Goals as goal

pub returns : goal.returns
returns c = in_falling c.args.square c.args.own c.requires.on_board c.ranges.own.fits c.requires.free
