-- The moves of a position that are worth the most.
use Rattle.std.specs.Prelude.{◌≡◌, ℤ, ◌≤ℤ◌, ◌<ℤ◌}
use Rattle.othello_rules.specs.declared.scoring.Scoring.{Scoring}
use Rattle.othello_bits.specs.Pos.{PosView, value_of, mask_where, is_best_move}
use Rattle.endgame_search.specs.declared.solved.BestMoves.{BestMoves}

-- if the value of p is at least low, m holds the value and the mask of the best moves; otherwise no squares
pub record AreBestFrom (g : Scoring) (p : PosView) (low : ℤ) (m : BestMoves) : Type 0 where
  pub value : low ≤ℤ value_of g p → m.score ≡ value_of g p
  pub squares : low ≤ℤ value_of g p → m.squares ≡ mask_where (is_best_move g p)
  pub none : value_of g p <ℤ low → m.squares ≡ 0
