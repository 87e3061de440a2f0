-- Moves that a search finds by trying the squares of a mask in their order.
use Rattle.std.specs.Prelude.{◌≡◌, ◌⊎◌, ◌<◌, ℕ, true, count_ones}
use Rattle.othello_rules.specs.Masks.{in_mask}
use Rattle.othello_bits.specs.Pos.{PosView, play_of, IsMove}
use Rattle.endgame_search.specs.declared.last_four.NextMove.{NextMove}

-- no square of the mask is a move
abbrev pub HasNoMoveOn : PosView → ℕ → Type 0
HasNoMoveOn p squares = (q : ℕ) → IsMove p q → in_mask squares q ≡ true → ⊥

-- m is the position after a move, and a mask of fewer squares than `squares`: every other move on a
-- square of `squares` is on one of those
pub record IsNextMove (p : PosView) (squares : ℕ) (m : NextMove) : Type 0 where
  pub square : ℕ
  pub legal : IsMove p square
  pub position : m.position ≡ play_of p square
  pub every : (q : ℕ) → IsMove p q → in_mask squares q ≡ true
      → (q ≡ square) ⊎ (in_mask m.rest q ≡ true)
  pub fewer : count_ones m.rest < count_ones squares
