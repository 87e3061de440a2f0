-- The greatest and the least score, as numbers that callers are promised. `pos n` is the integer n.
use Rattle.std.specs.Prelude.{◌≡◌, ℤ, pos, neg_ℤ, refl}
use Rattle.othello_rules.specs.declared.scoring.TheConstants.{GREATEST_SCORE}

-- the greatest score of a position under any scoring: all 64 squares are the mover's
abbrev pub greatest_score : ℤ
greatest_score = pos 64

-- the least score: minus the greatest
abbrev pub least_score : ℤ
least_score = neg_ℤ greatest_score

-- the constant of the code is this number
greatest_score_in_code : GREATEST_SCORE ≡ greatest_score
greatest_score_in_code = refl
