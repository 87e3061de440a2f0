-- Positions with one empty square.
use Rattle.std.specs.Prelude.{◌≡◌, ◌<◌, ◌↔◌, ℕ, true, count_ones}
use Rattle.othello_rules.specs.declared.discs.Cell.TheVariants.{Empty}
use Rattle.othello_rules.specs.declared.discs.Side.TheVariants.{Black}
use Rattle.othello_rules.specs.Rules.{has}
use Rattle.othello_bits.specs.Pos.{PosView, position_of, flips_of, IsMove}
use Rattle.endgame_search.specs.declared.last_four.LastSquare.{LastSquare}

-- no disc stands on q
abbrev pub IsEmptySquare : PosView → ℕ → Type 0
IsEmptySquare p q = has (position_of Black p) Empty q ≡ true

-- no square but s is empty; a disc may stand on s
abbrev pub IsFullExcept : PosView → ℕ → Type 0
IsFullExcept p s = (q : ℕ) → IsEmptySquare p q → q ≡ s

-- no square but l.square is empty, and l.turned is the number of discs that the mover turns by a
-- disc there: 0 if that is not a move
pub record IsLastSquare (l : LastSquare) : Type 0 where
  pub full : IsFullExcept l.position l.square
  pub turned : l.turned ≡ count_ones (flips_of l.position l.square)
  pub legal : IsMove l.position l.square ↔ (0 < l.turned)
