-- The image of a position under a renaming of the squares (the symmetries of the board are such
-- renamings).
use Rattle.std.specs.Prelude.{ℕ, List, map, slice_index_or}
use Rattle.othello_rules.specs.declared.discs.Cell.{Cell}
use Rattle.othello_rules.specs.declared.discs.Cell.TheVariants.{Empty}
use Rattle.othello_rules.specs.Board.{squares}
use Rattle.othello_rules.specs.Rules.{GridView}

-- the cells with each square holding what was on the square that `back` names
unfoldable pub moved_cells : (ℕ → ℕ) → List Cell → List Cell
moved_cells back cells = map (λ q. slice_index_or cells (back q) Empty) squares

-- the position with moved cells; the side to move stays
abbrev pub image_by : (ℕ → ℕ) → GridView → GridView
image_by back P = record { cells = moved_cells back P.cells; mover = P.mover }
