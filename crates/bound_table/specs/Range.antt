-- Ranges of scores (the bounds that a window search leaves), and when one is true of a position.
-- i is a range throughout.
use Rattle.std.specs.Prelude.{ℤ, ◌≤ℤ◌}
use Rattle.othello_rules.specs.Limits.{least_score, greatest_score}
use Rattle.othello_rules.specs.declared.scoring.Scoring.{Scoring}
use Rattle.othello_bits.specs.Pos.{PosView, value_of}

-- the scores from low to high, ends included
pub record RangeView : Type 0 where
  pub low : ℤ
  pub high : ℤ

-- the range from a to b
abbrev pub range_view : ℤ → ℤ → RangeView
range_view a b = record { low = a; high = b }

-- -64 <= low <= high <= 64: the ends are scores, in their order
pub record IsRange (i : RangeView) : Type 0 where
  pub least : least_score ≤ℤ i.low
  pub ordered : i.low ≤ℤ i.high
  pub most : i.high ≤ℤ greatest_score

-- the value of the position under the scoring lies in the range
abbrev pub IsTrueOf : Scoring → PosView → RangeView → Type 0
IsTrueOf g p i = (i.low ≤ℤ value_of g p) × (value_of g p ≤ℤ i.high)
