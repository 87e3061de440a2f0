-- Worked examples: flips, moves and answers of small positions, which the check computes from the definitions.
-- The comments show the rows of each position, row 1 first: X is a black disc, O a white disc, - an
-- empty square. `pos n` is the score n, and `negsuc n` is -(n + 1): negsuc 63 is -64.
use Rattle.std.specs.Prelude.{◌≡◌, List, [], ◌∷◌, ◌++◌, ℤ, pos, negsuc, replicate, refl}
use Rattle.othello_rules.specs.declared.discs.Side.{Side}
use Rattle.othello_rules.specs.declared.discs.Side.TheVariants as side
use Rattle.othello_rules.specs.declared.discs.Cell.{Cell}
use Rattle.othello_rules.specs.declared.discs.Cell.TheVariants.{Empty, Black, White}
use Rattle.othello_rules.specs.declared.scoring.Scoring.TheVariants.{Winner, Discs, Sign}
use Rattle.othello_rules.specs.declared.answer.Best.{Best}
use Rattle.othello_rules.specs.declared.answer.Best.TheVariants.{Moves, Pass, Over}
use Rattle.othello_rules.specs.Board.{squares, directions, ray}
use Rattle.othello_rules.specs.Rules.{GridView, run, closes, turned, flips, moves, painted_cells, play}
use Rattle.othello_rules.specs.Scores.{final}
use Rattle.othello_rules.specs.Masks.{mask_of}
use Rattle.othello_rules.specs.Answer.{AnswerView}
use Rattle.othello_rules.specs.Value.{greatest, can_move, best_worth, value_at, value, best_moves, best, answer}

-- 64 black discs
black_board : List Cell
black_board = replicate 64 Black

-- three rows X, two rows empty, three rows O: neither side can move, and neither has more
level_halves : List Cell
level_halves = replicate 24 Black ++ replicate 16 Empty ++ replicate 24 White

-- four rows X, two rows empty, two rows O: neither side can move, and Black has more
unequal_halves : List Cell
unequal_halves = replicate 32 Black ++ replicate 16 Empty ++ replicate 16 White

-- -OOOOOOX, and seven rows X
last_corner : List Cell
last_corner = Empty ∷ replicate 6 White ++ replicate 57 Black

-- --OOOOOX, and seven rows X: A1 stays empty
corner_left_over : List Cell
corner_left_over = replicate 2 Empty ++ replicate 5 White ++ replicate 57 Black

-- -OOXXOO-, and seven rows X: two moves are best
equal_corners : List Cell
equal_corners =
    Empty ∷ replicate 2 White ++ replicate 2 Black ++ replicate 2 White
    ++ Empty ∷ replicate 56 Black

-- -OXXXXX-, XXXXXXXO, two rows X, XXXOXXXX, three rows X: after Black's move on A1 White takes H1
unequal_corners : List Cell
unequal_corners =
    Empty ∷ White ∷ replicate 5 Black ++ Empty ∷ replicate 7 Black ++ White ∷ replicate 19 Black
    ++ White ∷ replicate 28 Black

-- the position with these cells and with side s to move
abbrev to_move : Side → List Cell → GridView
to_move s cells = record { cells = cells; mover = s }

-- H1 for White: south-west G2, F3, E4, then west G1 to C1
flips-unequal_corners :
    flips (to_move side.White unequal_corners) 7 ≡ 14 ∷ 21 ∷ 28 ∷ 6 ∷ 5 ∷ 4 ∷ 3 ∷ 2 ∷ []
unfolding unequal_corners flips turned run closes ray directions
flips-unequal_corners = refl

moves-equal_corners : moves (to_move side.Black equal_corners) ≡ 0 ∷ 7 ∷ []
unfolding equal_corners moves flips turned run closes ray directions squares
moves-equal_corners = refl

-- the answers under Winner, Discs and Sign
abbrev answers : GridView → List AnswerView
answers P = answer Winner P ∷ answer Discs P ∷ answer Sign P ∷ []

-- the answer with score z, which b attains
abbrev answer_with : ℤ → Best → AnswerView
answer_with z b = record { score = z; best = b }

-- The squares of a mask: 1 is A1, 2 is B1, 128 is H1, 129 both corners.
answers-black_board-white : answers (to_move side.White black_board)
    ≡ answer_with (negsuc 63) Over ∷ answer_with (negsuc 63) Over ∷ answer_with (negsuc 0) Over ∷ []
unfolding black_board moves flips turned run closes ray directions squares play painted_cells final greatest can_move
    best_worth value_at value best_moves mask_of best answer
answers-black_board-white = refl

answers-level_halves-black : answers (to_move side.Black level_halves)
    ≡ answer_with (pos 0) Over ∷ answer_with (pos 0) Over ∷ answer_with (pos 0) Over ∷ []
unfolding level_halves moves flips turned run closes ray directions squares play painted_cells final greatest can_move
    best_worth value_at value best_moves mask_of best answer
answers-level_halves-black = refl

answers-unequal_halves-black : answers (to_move side.Black unequal_halves)
    ≡ answer_with (pos 32) Over ∷ answer_with (pos 16) Over ∷ answer_with (pos 1) Over ∷ []
unfolding unequal_halves moves flips turned run closes ray directions squares play painted_cells final greatest can_move
    best_worth value_at value best_moves mask_of best answer
answers-unequal_halves-black = refl

answers-last_corner-black : answers (to_move side.Black last_corner)
    ≡ answer_with (pos 64) (Moves 1) ∷ answer_with (pos 64) (Moves 1) ∷ answer_with (pos 1) (Moves 1) ∷ []
unfolding last_corner moves flips turned run closes ray directions squares play painted_cells final greatest can_move
    best_worth value_at value best_moves mask_of best answer
answers-last_corner-black = refl

answers-last_corner-white : answers (to_move side.White last_corner)
    ≡ answer_with (negsuc 63) Pass ∷ answer_with (negsuc 63) Pass ∷ answer_with (negsuc 0) Pass ∷ []
unfolding last_corner moves flips turned run closes ray directions squares play painted_cells final greatest can_move
    best_worth value_at value best_moves mask_of best answer
answers-last_corner-white = refl

answers-corner_left_over-black : answers (to_move side.Black corner_left_over)
    ≡ answer_with (pos 64) (Moves 2) ∷ answer_with (pos 63) (Moves 2) ∷ answer_with (pos 1) (Moves 2) ∷ []
unfolding corner_left_over moves flips turned run closes ray directions squares play painted_cells final greatest can_move
    best_worth value_at value best_moves mask_of best answer
answers-corner_left_over-black = refl

answers-equal_corners-black : answers (to_move side.Black equal_corners)
    ≡ answer_with (pos 64) (Moves 129) ∷ answer_with (pos 64) (Moves 129) ∷ answer_with (pos 1) (Moves 129) ∷ []
unfolding equal_corners moves flips turned run closes ray directions squares play painted_cells final greatest can_move
    best_worth value_at value best_moves mask_of best answer
answers-equal_corners-black = refl

answers-unequal_corners-black : answers (to_move side.Black unequal_corners)
    ≡ answer_with (pos 62) (Moves 128) ∷ answer_with (pos 62) (Moves 128) ∷ answer_with (pos 1) (Moves 129) ∷ []
unfolding unequal_corners moves flips turned run closes ray directions squares play painted_cells final greatest can_move
    best_worth value_at value best_moves mask_of best answer
answers-unequal_corners-black = refl

answers-unequal_corners-white : answers (to_move side.White unequal_corners)
    ≡ answer_with (negsuc 39) (Moves 128) ∷ answer_with (negsuc 38) (Moves 128)
    ∷ answer_with (negsuc 0) (Moves 128) ∷ []
unfolding unequal_corners moves flips turned run closes ray directions squares play painted_cells final greatest can_move
    best_worth value_at value best_moves mask_of best answer
answers-unequal_corners-white = refl
