use Rattle.othello_rules.proofs.TurnLaws.{AllOpposing}
use Rattle.othello_rules.proofs.grid.Grid.count_turned.Given as goal

abbrev pub invariant-loop-run : goal.invariant-loop-run
invariant-loop-run l = AllOpposing l.self l.from l.direction l.run
