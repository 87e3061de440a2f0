-- The value of a position by full minimax, and its answer, under each scoring (textbook minimax,
-- each value as the side to move sees it). g is a scoring throughout, and P a position.
use Rattle.std.specs.Prelude.{ℕ, zero, suc, Bool, List, [], ◌∷◌, map, ℤ, pos, neg_ℤ, if◌then◌else◌}
use Rattle.std.specs.List.{filter, fold}
use Rattle.std.specs.Int.{int_max}
use Rattle.std.specs.Ordering.{int_eq}
use Rattle.othello_rules.specs.declared.discs.Cell.TheVariants.{Empty}
use Rattle.othello_rules.specs.declared.scoring.Scoring.{Scoring}
use Rattle.othello_rules.specs.declared.answer.Best.{Best}
use Rattle.othello_rules.specs.declared.answer.Best.TheVariants.{Moves, Pass, Over}
use Rattle.othello_rules.specs.Rules.{GridView, moves, pass, play, count_of, is_nonempty}
use Rattle.othello_rules.specs.Masks.{mask_of}
use Rattle.othello_rules.specs.Scores.{final}
use Rattle.othello_rules.specs.Answer.{AnswerView}

-- the greatest of some numbers (of none: 0, which is never asked for)
unfoldable pub greatest : List ℤ → ℤ
greatest [] = pos 0
greatest (x ∷ xs) = fold int_max x xs

-- the mover has a move
unfoldable pub can_move : GridView → Bool
can_move P = is_nonempty (moves P)

-- what a move is worth to the mover, where v values the position after it
abbrev pub worth : (GridView → ℤ) → GridView → ℕ → ℤ
worth v P q = neg_ℤ (v (play P q))

-- what the best move is worth
unfoldable pub best_worth : (GridView → ℤ) → GridView → ℤ
best_worth v P = greatest (map (worth v P) (moves P))

-- the number of empty squares
abbrev pub empties : GridView → ℕ
empties P = count_of P Empty

-- the value of a position with n empty squares. A move fills one; after a pass a move must come.
unfoldable pub value_at : Scoring → ℕ → GridView → ℤ
value_at g zero P = final g P
value_at g (suc n) P =
    if can_move P
    then best_worth (value_at g n) P
    else (if can_move (pass P) then neg_ℤ (best_worth (value_at g n) (pass P)) else final g P)

-- the value of a position
unfoldable pub value : Scoring → GridView → ℤ
value g P = value_at g (empties P) P

-- a move that is worth the value
abbrev pub is_best : Scoring → GridView → ℕ → Bool
is_best g P q = int_eq (worth (value g) P q) (value g P)

-- the best moves, in the order of the squares
unfoldable pub best_moves : Scoring → GridView → List ℕ
best_moves g P = filter (is_best g P) (moves P)

-- what attains the value: the mask of all best moves, a pass, or the end of the game
unfoldable pub best : Scoring → GridView → Best
best g P =
    if can_move P
    then Moves (mask_of (best_moves g P))
    else (if can_move (pass P) then Pass else Over)

-- the value, and what attains it
unfoldable pub answer : Scoring → GridView → AnswerView
answer g P = record { score = value g P; best = best g P }
