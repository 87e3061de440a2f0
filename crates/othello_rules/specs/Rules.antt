-- Positions, what a move turns, the moves, play and pass, and when the game is over
-- (World Othello Federation rules). P is a position throughout, and q a square, by its number.
use Rattle.std.specs.Prelude.{◌≡◌, ℕ, Bool, true, false, if◌then◌else◌, List, [], ◌∷◌, map, Option, Some, None}
use Rattle.std.specs.Prelude.{slice_get, nat_eq}
use Rattle.std.specs.List.{filter, flat_map, list_any, count_by, enumerate_from}
use Rattle.othello_rules.specs.declared.direction.Direction.{Direction}
use Rattle.othello_rules.specs.declared.discs.Side.{Side}
use Rattle.othello_rules.specs.declared.discs.Side.TheVariants as side
use Rattle.othello_rules.specs.declared.discs.Cell.{Cell}
use Rattle.othello_rules.specs.declared.discs.Cell.TheVariants as cell
use Rattle.othello_rules.specs.Board.{squares, directions, ray}

-- 64 cells in the order of the squares' numbers, and the side to move, the mover
pub record GridView : Type 0 where
  pub cells : List Cell
  pub mover : Side

-- the opponent of a side
abbrev pub other : Side → Side
other side.Black = side.White
other side.White = side.Black

-- the cell that holds a side's disc
abbrev pub disc : Side → Cell
disc side.Black = cell.Black
disc side.White = cell.White

-- the cell with a disc of the mover
abbrev pub own : GridView → Cell
own P = disc P.mover

-- the cell with a disc of the opponent
abbrev pub opposing : GridView → Cell
opposing P = disc (other P.mover)

-- two cells are the same
abbrev pub same_cell : Cell → Cell → Bool
same_cell cell.Empty cell.Empty = true
same_cell cell.Black cell.Black = true
same_cell cell.White cell.White = true
same_cell _ _ = false

-- a cell was found, and it is c
abbrev pub is_some_cell : Cell → Option Cell → Bool
is_some_cell c None = false
is_some_cell c (Some d) = same_cell c d

-- square q is on the board, and c is its cell
abbrev pub has : GridView → Cell → ℕ → Bool
has P c q = is_some_cell c (slice_get P.cells q)

-- of the squares met, the longest run of opposing discs at the front
unfoldable pub run : (ℕ → Bool) → List ℕ → List ℕ
run opp [] = []
run opp (s ∷ ss) = if opp s then s ∷ run opp ss else []

-- the square beyond the longest run of opposing discs at the front exists and holds an own disc
unfoldable pub closes : (ℕ → Bool) → (ℕ → Bool) → List ℕ → Bool
closes own opp [] = false
closes own opp (s ∷ ss) = if opp s then closes own opp ss else own s

-- the longest run of opposing discs at the front, if an own disc closes it; otherwise none
abbrev pub turned_on : (ℕ → Bool) → (ℕ → Bool) → List ℕ → List ℕ
turned_on own opp met = if closes own opp met then run opp met else []

-- what a disc put on q would turn in one direction
unfoldable pub turned : GridView → ℕ → Direction → List ℕ
turned P q d = turned_on (has P (own P)) (has P (opposing P)) (ray d q)

-- what a disc put on q would turn in all directions, one after the other: nothing if q is occupied
unfoldable pub flips : GridView → ℕ → List ℕ
flips P q = if has P cell.Empty q then flat_map (turned P q) directions else []

-- the list has a square
abbrev pub is_nonempty : List ℕ → Bool
is_nonempty [] = false
is_nonempty (_ ∷ _) = true

-- q is empty, and a disc on it would turn something
abbrev pub is_move : GridView → ℕ → Bool
is_move P q = is_nonempty (flips P q)

-- the empty squares on which a disc would turn something
unfoldable pub moves : GridView → List ℕ
moves P = filter (is_move P) squares

-- the position with the other side to move
abbrev pub pass : GridView → GridView
pass P = record P { mover = other P.mover }

-- the cell of square s after the squares qs are set to c
abbrev pub painted_cell : Cell → List ℕ → ℕ × Cell → Cell
painted_cell c qs (s, old) = if list_any (nat_eq s) qs then c else old

-- the cells after the squares qs are set to c
unfoldable pub painted_cells : Cell → List ℕ → List Cell → List Cell
painted_cells c qs cells = map (painted_cell c qs) (enumerate_from 0 cells)

-- q and all that the move turns become the mover's, and the other side is to move
unfoldable pub play : GridView → ℕ → GridView
play P q = record { cells = painted_cells (own P) (q ∷ flips P q) P.cells; mover = other P.mover }

-- neither side has a move
abbrev pub IsOver : GridView → Type 0
IsOver P = (moves P ≡ []) × (moves (pass P) ≡ [])

-- how many cells are c
abbrev pub count_of : GridView → Cell → ℕ
count_of P c = count_by (same_cell c) P.cells
