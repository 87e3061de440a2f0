use Rattle.std.proofs.Common.{◌≡◌}
use Rattle.othello_rules.proofs.TriedLaws.{tried, work}
use Rattle.othello_rules.proofs.grid.Grid.+plain_value.Given as goal

abbrev pub decreases-plain_value : goal.decreases-plain_value
decreases-plain_value l = work l.self.now

abbrev pub invariant-loop-square : goal.invariant-loop-square
invariant-loop-square l = l.best ≡ tried l.scoring l.self l.square-index
