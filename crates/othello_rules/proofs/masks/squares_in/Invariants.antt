use Rattle.std.proofs.Common.{◌≡◌, ◌≤◌}
use Rattle.arrayvec.specs.ArrayVec.{array_vec_len}
use Rattle.othello_rules.specs.Masks.{in_mask}
use Rattle.othello_rules.proofs.SquareLaws.{first_squares}
use Rattle.othello_rules.proofs.masks.squares_in.Given as goal

abbrev pub invariant-loop-square : goal.invariant-loop-square
invariant-loop-square l = record {
  items : l.squares.items ≡ first_squares (in_mask l.mask) l.square-index;
  len : array_vec_len l.squares ≤ l.square-index;
}
