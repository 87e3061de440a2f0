-- All discs exchanged, and the side to move with them (the colour symmetry of the game).
use Rattle.std.specs.Prelude.{map}
use Rattle.othello_rules.specs.declared.discs.Cell.{Cell}
use Rattle.othello_rules.specs.declared.discs.Cell.TheVariants.{Empty, Black, White}
use Rattle.othello_rules.specs.Rules.{GridView, other}

-- the disc of the other colour; an empty cell stays empty
abbrev pub swap_cell : Cell → Cell
swap_cell Empty = Empty
swap_cell Black = White
swap_cell White = Black

-- all discs exchanged, and the other side to move
abbrev pub colour_swap : GridView → GridView
colour_swap P = record { cells = map swap_cell P.cells; mover = other P.mover }
