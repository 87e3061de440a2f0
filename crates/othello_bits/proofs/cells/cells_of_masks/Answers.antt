use Rattle.std.proofs.Common.{◌<◌, arith}
use Rattle.othello_bits.specs.Pos.{discs}
use Rattle.othello_bits.proofs.GridMeaning.{cells-filled}
use Rattle.othello_bits.proofs.cells.cells_of_masks.Goals as goal

pub returns : goal.returns
returns c =
    cells-filled c.args.side (discs c.args.own c.args.opp) c.loop-number.cells c.loop-number.invariant.whole
    (λ k d h. let below : k < c.loop-number.number = omega arith in c.loop-number.invariant.filled k d below)
