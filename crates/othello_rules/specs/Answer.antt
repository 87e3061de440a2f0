-- What contracts see of an answer.
use Rattle.std.specs.Prelude.{◌<◌, ℤ, ◌≤ℤ◌, ⊤}
use Rattle.othello_rules.specs.declared.answer.Best.{Best}
use Rattle.othello_rules.specs.declared.answer.Best.TheVariants.{Moves, Pass, Over}
use Rattle.othello_rules.specs.Limits.{least_score, greatest_score}

-- the value of a position, and what attains it
pub record AnswerView : Type 0 where
  pub score : ℤ
  pub best : Best

-- z is a score: from -64 to 64
pub record IsScore (z : ℤ) : Type 0 where
  pub low : least_score ≤ℤ z
  pub high : z ≤ℤ greatest_score

-- what attains a value: a mask of best moves is not 0, so it has some move
abbrev pub IsBest : Best → Type 0
IsBest (Moves mask) = 0 < mask
IsBest Pass = ⊤
IsBest Over = ⊤
