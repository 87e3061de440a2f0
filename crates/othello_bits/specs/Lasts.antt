-- The number of turned discs where each square without a disc of the mover has one of the opponent.
use Rattle.std.specs.Prelude.{ℕ, ◌+◌, not, List, length}
use Rattle.othello_rules.specs.Rules.{turned_on}
use Rattle.othello_rules.specs.Masks.{in_mask}
use Rattle.othello_bits.specs.Shifts.{line}
use Rattle.othello_bits.specs.declared.mobility.Direction.{Direction}

-- how many discs are turned on a line of squares
abbrev pub turned_along : ℕ → List ℕ → ℕ
turned_along own met = length (turned_on (in_mask own) (λ i. not (in_mask own i)) met)

-- how many discs are turned from a square in two directions
abbrev pub turned_by : ℕ → Direction → Direction → ℕ → ℕ
turned_by own h g q = turned_along own (line h q) + turned_along own (line g q)
