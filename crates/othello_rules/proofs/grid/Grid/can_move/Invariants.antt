use Rattle.std.proofs.Common.{◌≡◌, ℕ, ◌<◌, false}
use Rattle.othello_rules.specs.Rules.{is_move}
use Rattle.othello_rules.proofs.grid.Grid.can_move.Given as goal

abbrev pub invariant-loop-square : goal.invariant-loop-square
invariant-loop-square l = (k : ℕ) → k < l.square-index → is_move l.self k ≡ false
