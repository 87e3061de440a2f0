use Rattle.std.proofs.Common.{◌≡◌, take}
use Rattle.std.specs.List.{count_by}
use Rattle.othello_rules.specs.Rules.{same_cell}
use Rattle.othello_rules.proofs.grid.Grid.count.Given as goal

abbrev pub invariant-loop-found : goal.invariant-loop-found
invariant-loop-found l = l.count ≡ count_by (same_cell l.cell) (take l.found-index l.found-items)
