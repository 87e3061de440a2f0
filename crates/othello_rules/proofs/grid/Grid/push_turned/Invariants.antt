use Rattle.std.proofs.Common.{◌≡◌, ◌+◌, ◌++◌, take}
use Rattle.arrayvec.specs.ArrayVec.{array_vec_len}
use Rattle.othello_rules.specs.Board.{ray}
use Rattle.othello_rules.proofs.grid.Grid.push_turned.Given as goal

abbrev pub invariant-loop-step : goal.invariant-loop-step
invariant-loop-step l = record {
  items : l.out.items ≡ l.initial.out.items ++ take l.step (ray l.direction l.from);
  len : array_vec_len l.out ≡ array_vec_len l.initial.out + l.step;
}
