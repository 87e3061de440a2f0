-- Scorings, positions, answers and scores as C passes and reads them.
use Rattle.std.specs.Prelude.{◌≡◌, ◌≤ℤ◌, ℕ, ℤ, pos, List, map, IfSome, Option, slice_get, neg_ℤ, if◌then◌else◌}
use Rattle.othello_rules.specs.Board.{squares}
use Rattle.othello_rules.specs.Masks.{in_mask}
use Rattle.othello_rules.specs.Answer.{AnswerView, IsScore}
use Rattle.othello_rules.specs.declared.answer.Best.{Best}
use Rattle.othello_rules.specs.declared.answer.Best.TheVariants.{Moves, Pass, Over}
use Rattle.othello_rules.specs.declared.scoring.Scoring.{Scoring}
use Rattle.othello_rules.specs.Scores.{all_scorings}
use Rattle.othello_bits.specs.Pos.{PosView, answer_of, discs, moves_of, play_of, value_of}
use Rattle.ffosolve_c.specs.declared.answer.FfosolveAnswer.{FfosolveAnswer}
use Rattle.ffosolve_c.specs.declared.scores.FfosolveMoveScores.{FfosolveMoveScores}
use Rattle.ffosolve_c.specs.declared.position.FfosolvePosition.{FfosolvePosition}

-- the scoring that a number names
unfoldable pub numbered_scoring : ℕ → Option Scoring
numbered_scoring n = slice_get all_scorings n

-- the position of the masks
abbrev pub discs_at : FfosolvePosition → PosView
discs_at p = discs p.own p.opp

-- a position as C reads it
abbrev pub c_position : PosView → FfosolvePosition
c_position p = record { own = p.own; opp = p.opp }

-- the kind of what attains the score: 0 moves, 1 a pass, 2 the end of the game; and the mask of the
-- best moves, 0 for a pass and for the end of the game
abbrev pub kind_of : Best → ℤ
kind_of (Moves mask) = pos 0
kind_of Pass = pos 1
kind_of Over = pos 2

abbrev pub moves_in : Best → ℕ
moves_in (Moves mask) = mask
moves_in Pass = 0
moves_in Over = 0

-- an answer as C reads it, and the answer of a position
abbrev pub c_answer : AnswerView → FfosolveAnswer
c_answer answer =
    record { score = answer.score; kind = kind_of answer.best; best = moves_in answer.best }

abbrev pub answer_at : Scoring → FfosolvePosition → FfosolveAnswer
answer_at g p = c_answer (answer_of g (discs_at p))

-- the answer of the position, and the answers of the positions, under the scoring of this number
abbrev pub IsAnswer : ℕ → FfosolvePosition → FfosolveAnswer → Type 0
IsAnswer scoring p answer = IfSome (numbered_scoring scoring) (λ g. answer ≡ answer_at g p)

abbrev pub AreAnswers : ℕ → List FfosolvePosition → List FfosolveAnswer → Type 0
AreAnswers scoring ps answers = IfSome (numbered_scoring scoring) (λ g. answers ≡ map (answer_at g) ps)

-- a claim can be right: its score is from -64 to 64, and its kind 0, 1 or 2
abbrev pub IsPossible : FfosolveAnswer → Type 0
IsPossible claim =
    IsScore claim.score × ((pos 0 ≤ℤ claim.kind) × (claim.kind ≤ℤ pos 2))

-- what the move to square q is worth to the mover, or 127 if it is not a move
abbrev pub score_at : Scoring → PosView → ℕ → ℤ
score_at g p q = if in_mask (moves_of p) q then neg_ℤ (value_of g (play_of p q)) else pos 127

-- the scores are those of the squares 0 to 63, in their order, under the scoring of this number
abbrev pub AreScores : ℕ → FfosolvePosition → List ℤ → Type 0
AreScores scoring p scores =
    IfSome (numbered_scoring scoring) (λ g. scores ≡ map (score_at g (discs_at p)) squares)

-- the scores at all squares and the mask of the moves, and those of the positions, under the scoring
-- of this number
abbrev pub scores_at : Scoring → FfosolvePosition → FfosolveMoveScores
scores_at g p =
    record { scores = map (score_at g (discs_at p)) squares; moves = moves_of (discs_at p) }

abbrev pub AreScoresOfAll : ℕ → List FfosolvePosition → List FfosolveMoveScores → Type 0
AreScoresOfAll scoring ps found =
    IfSome (numbered_scoring scoring) (λ g. found ≡ map (scores_at g) ps)
