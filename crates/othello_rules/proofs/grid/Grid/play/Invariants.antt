use Rattle.std.proofs.Common.{◌≡◌, ◌∷◌, take}
use Rattle.othello_rules.specs.Rules.{painted_cells}
use Rattle.othello_rules.proofs.grid.Grid.play.Given as goal

abbrev pub invariant-loop-turned : goal.invariant-loop-turned
invariant-loop-turned l = l.cells ≡ painted_cells l.own (l.fn.square ∷ take l.turned-index l.turned-items) l.self.cells
