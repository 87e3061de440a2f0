use Rattle.std.proofs.Common.{◌≡◌, ◌*◌, ◌≤◌, take}
use Rattle.std.specs.List.{flat_map}
use Rattle.arrayvec.specs.ArrayVec.{array_vec_len}
use Rattle.othello_rules.specs.Board.{directions}
use Rattle.othello_rules.specs.Rules.{turned}
use Rattle.othello_rules.proofs.grid.Grid.flips.Given as goal

abbrev pub invariant-loop-direction : goal.invariant-loop-direction
invariant-loop-direction l = record {
  items : l.out.items ≡ flat_map (turned l.self l.square) (take l.direction-index directions);
  len : array_vec_len l.out ≤ 6 * l.direction-index;
}
