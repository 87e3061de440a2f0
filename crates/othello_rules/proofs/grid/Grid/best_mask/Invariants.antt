use Rattle.std.proofs.Common.{◌≡◌, ◌<◌, ◌^◌}
use Rattle.othello_rules.proofs.MaskLaws.{first_mask}
use Rattle.othello_rules.proofs.grid.Grid.best_mask.Given as goal

abbrev pub invariant-loop-square : goal.invariant-loop-square
invariant-loop-square l = record {
  value : l.mask ≡ first_mask l.scoring l.self l.square-index;
  below : l.mask < 2 ^ l.square-index;
}
