use Rattle.std.proofs.Common.{◌∙◌, ap}
use Rattle.othello_bits.specs.Pos.{position_of}
use Rattle.othello_bits.proofs.pos.Pos.to_grid.Goals as goal

pub returns : goal.returns
returns c = c.new.ensures ∙ rw c.cells_of_masks.ensures (ap (position_of c.args.side) c.self.view_is)
