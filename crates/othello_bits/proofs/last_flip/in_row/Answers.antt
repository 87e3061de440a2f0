use Rattle.othello_bits.proofs.LineCounts.{in_row}
use Rattle.othello_bits.proofs.last_flip.in_row.Goals as goal

pub returns : goal.returns
returns c = in_row c.args.square c.args.own c.requires.on_board c.ranges.own.fits c.requires.free
