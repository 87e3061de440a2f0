-- The square next to a square in a direction, if the board has one. Only the law
-- `laws::rays_go_step_by_step` uses it.
use Rattle.std.specs.Prelude.{ℕ, ◌+◌, ◌-◌, nat_lt, if◌then◌else◌, Option, Some, None}
use Rattle.othello_rules.specs.declared.direction.Step.{Step}
use Rattle.othello_rules.specs.declared.direction.Step.TheVariants.{Back, Stay, Ahead}
use Rattle.othello_rules.specs.declared.direction.Direction.{Direction}
use Rattle.othello_rules.specs.Board.{square_at, column, row}

-- the next column, or row, of the board: there is none before the first or after the last
abbrev pub next_place : Step → ℕ → Option ℕ
next_place Back at = if nat_lt 0 at then Some (at - 1) else None
next_place Stay at = Some at
next_place Ahead at = if nat_lt at 7 then Some (at + 1) else None

-- the square in a column and a row, if the board has both
abbrev pub square_in_both : Option ℕ → Option ℕ → Option ℕ
square_in_both (Some c) (Some r) = Some (square_at c r)
square_in_both _ _ = None

-- the neighbour of q in a direction, if the board has one
abbrev pub neighbour : Direction → ℕ → Option ℕ
neighbour d q = square_in_both (next_place d.column (column q)) (next_place d.row (row q))
