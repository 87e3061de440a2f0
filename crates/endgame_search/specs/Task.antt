-- What contracts see of a task and of a solved position.
use Rattle.othello_rules.specs.declared.scoring.Scoring.{Scoring}
use Rattle.othello_bits.specs.Pos.{PosView}

-- a position, whose value and best moves are asked for under a scoring
pub record TaskView : Type 0 where
  pub position : PosView
  pub scoring : Scoring
