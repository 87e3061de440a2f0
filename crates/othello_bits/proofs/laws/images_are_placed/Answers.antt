use Rattle.othello_bits.proofs.CanonicalLaws.{image-back, length-image}
use Rattle.othello_bits.proofs.ImageLaws.{cell-placed, mask-placed}
use Rattle.othello_bits.proofs.SymmetryKeeps.{kept, image-image}
use Rattle.othello_bits.proofs.laws.images_are_placed.Goals as goal

pub returns : goal.returns
returns c = record {
  on_board = λ s. (kept s).on_board;
  back = λ s. (kept s).comes_back;
  placed = cell-placed;
  mask = mask-placed;
  whole = length-image;
  undone = image-back;
  composed = image-image;
}
