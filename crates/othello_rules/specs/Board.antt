-- Squares by their numbers, the eight directions, and the squares met on the way to the edge
-- (World Othello Federation rules: columns A to H from left to right, rows 1 to 8 from top to bottom).
use Rattle.std.specs.Prelude.{◌≡◌, ◌⊎◌, ℕ, ◌+◌, ◌-◌, ◌*◌, ◌/◌, ◌%◌, min, List, [], ◌∷◌, map}
use Rattle.std.specs.List.{range_with_len}
use Rattle.othello_rules.specs.declared.direction.Step.{Step}
use Rattle.othello_rules.specs.declared.direction.Step.TheVariants.{Back, Stay, Ahead}
use Rattle.othello_rules.specs.declared.direction.Direction.{Direction}

-- the square in column c and row r, both from 0, has the number c + 8 * r
abbrev pub square_at : ℕ → ℕ → ℕ
square_at c r = c + 8 * r

-- the column of a square, from 0 for A
abbrev pub column : ℕ → ℕ
column q = q % 8

-- the row of a square, from 0 for 1
abbrev pub row : ℕ → ℕ
row q = q / 8

-- all squares in the order of their numbers
unfoldable pub squares : List ℕ
squares = range_with_len 0 64

-- a direction: a step back in the row goes north, one ahead in the column east
abbrev pub towards : Step → Step → Direction
towards c r = record { column = c; row = r }

-- north, north-east, east, and so on clockwise
unfoldable pub directions : List Direction
directions =
    towards Stay Back
    ∷ towards Ahead Back
    ∷ towards Ahead Stay
    ∷ towards Ahead Ahead
    ∷ towards Stay Ahead
    ∷ towards Back Ahead
    ∷ towards Back Stay
    ∷ towards Back Back
    ∷ []

-- how many steps a ray may make in its columns, or in its rows, before the edge; 7, the most of any
-- ray, if it stays in one
abbrev pub steps_along : Step → ℕ → ℕ
steps_along Back at = at
steps_along Stay at = 7
steps_along Ahead at = 7 - at

-- the column, or the row, k steps on
abbrev pub place_after : Step → ℕ → ℕ → ℕ
place_after Back at k = at - k
place_after Stay at k = at
place_after Ahead at k = at + k

-- how many steps can be made from q before the edge
abbrev pub steps_to_edge : Direction → ℕ → ℕ
steps_to_edge d q = min (steps_along d.column (column q)) (steps_along d.row (row q))

-- the square k steps from q
abbrev pub square_after : Direction → ℕ → ℕ → ℕ
square_after d q k = square_at (place_after d.column (column q) k) (place_after d.row (row q) k)

-- the squares met by stepping from q up to the edge, nearest first, without q
unfoldable pub ray : Direction → ℕ → List ℕ
ray d q = map (square_after d q) (range_with_len 1 (steps_to_edge d q))

-- the letter of the column, from A, and the digit of the row, from 1
unfoldable pub name_of : ℕ → List ℕ
name_of q = (65 + column q) ∷ (49 + row q) ∷ []

-- the name of q, its letter in either case
abbrev pub IsNameOf : List ℕ → ℕ → Type 0
IsNameOf name q = (name ≡ name_of q) ⊎ (name ≡ (97 + column q) ∷ (49 + row q) ∷ [])
