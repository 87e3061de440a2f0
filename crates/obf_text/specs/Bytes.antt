-- The meaning of single bytes of a line of OBF text, in this project's profile.
use Rattle.std.specs.Prelude.{ℕ, ◌==◌, ◌||◌, Bool, not, Option, Some, None, if◌then◌else◌}
use Rattle.othello_rules.specs.declared.discs.Cell.{Cell}
use Rattle.othello_rules.specs.declared.discs.Cell.TheVariants as cell
use Rattle.othello_rules.specs.declared.discs.Side.{Side}
use Rattle.othello_rules.specs.declared.discs.Side.TheVariants as side

-- a blank: a space or a tab
abbrev pub is_blank : ℕ → Bool
is_blank b = (b == 32) || (b == 9)

-- a letter of a black disc: X x * B b
abbrev pub is_black : ℕ → Bool
is_black b = (b == 88) || ((b == 120) || ((b == 42) || ((b == 66) || (b == 98))))

-- a letter of a white disc: O o W w
abbrev pub is_white : ℕ → Bool
is_white b = (b == 79) || ((b == 111) || ((b == 87) || (b == 119)))

-- an empty square: - or .
abbrev pub is_empty_cell : ℕ → Bool
is_empty_cell b = (b == 45) || (b == 46)

-- a disc's letter or an empty square
abbrev pub is_cell : ℕ → Bool
is_cell b = is_black b || (is_white b || is_empty_cell b)

-- the cell of a byte; a byte that is not a disc's letter is an empty square
abbrev pub cell_of : ℕ → Cell
cell_of b = if is_black b then cell.Black else (if is_white b then cell.White else cell.Empty)

-- the side of a disc's letter
abbrev pub side_of : ℕ → Option Side
side_of b = if is_black b then Some side.Black else (if is_white b then Some side.White else None)

-- a byte that ends blanks
abbrev pub is_content : ℕ → Bool
is_content b = not (is_blank b)

-- a byte that ends cells
abbrev pub is_no_cell : ℕ → Bool
is_no_cell b = not (is_cell b)
