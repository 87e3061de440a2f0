-- What two masks mean (bitboards): a position of the rules, for either side to move.
use Rattle.std.specs.Prelude.{◌≡◌, ℕ, Bool, true, ◌&&◌, nat_eq, ◌==◌, List, map, ℤ, neg_ℤ, if◌then◌else◌}
use Rattle.std.specs.List.{filter, list_any}
use Rattle.std.specs.Ordering.{int_eq}
use Rattle.othello_rules.specs.declared.answer.Best.{Best}
use Rattle.othello_rules.specs.declared.answer.Best.TheVariants.{Moves, Pass, Over}
use Rattle.othello_rules.specs.declared.discs.Side.{Side}
use Rattle.othello_rules.specs.declared.discs.Side.TheVariants.{Black, White}
use Rattle.othello_rules.specs.declared.discs.Cell.{Cell}
use Rattle.othello_rules.specs.declared.discs.Cell.TheVariants.{Empty}
use Rattle.othello_rules.specs.Board.{squares}
use Rattle.othello_rules.specs.Rules as rules
use Rattle.othello_rules.specs.Rules.{GridView, disc, other}
use Rattle.othello_rules.specs.Answer.{AnswerView}
use Rattle.othello_rules.specs.Value as worth
use Rattle.othello_rules.specs.Scores.{final}
use Rattle.othello_rules.specs.declared.scoring.Scoring.{Scoring}
use Rattle.othello_rules.specs.Masks.{mask_of, in_mask}
use Rattle.othello_rules.specs.Stable.{IsStable}

-- the mover's discs and the other side's, as masks
pub record PosView : Type 0 where
  pub own : ℕ
  pub opp : ℕ

-- two masks: a of the mover, b of the other side
abbrev pub discs : ℕ → ℕ → PosView
discs a b = record { own = a; opp = b }

-- what stands on square i where side s is the mover
abbrev pub cell_at : Side → PosView → ℕ → Cell
cell_at s p i =
    if in_mask p.own i then disc s else (if in_mask p.opp i then disc (other s) else Empty)

-- the 64 cells where side s is the mover
unfoldable pub cells_of : Side → PosView → List Cell
cells_of s p = map (cell_at s p) squares

-- the position of the rules with side s as the mover
abbrev pub position_of : Side → PosView → GridView
position_of s p = record { cells = cells_of s p; mover = s }

-- i is among the squares
abbrev pub mem : ℕ → List ℕ → Bool
mem i qs = list_any (λ q. q == i) qs

-- the mask of the squares that pass a test
abbrev pub mask_where : (ℕ → Bool) → ℕ
mask_where test = mask_of (filter test squares)

-- the masks of a position of the rules
unfoldable pub discs_of : GridView → PosView
discs_of P = record {
  own = mask_where (rules.has P (rules.own P));
  opp = mask_where (rules.has P (rules.opposing P));
}

-- From here on Black is the mover. With White to move each definition below has equal results.

-- the mask of the moves
unfoldable pub moves_of : PosView → ℕ
moves_of p = mask_of (rules.moves (position_of Black p))

-- the mask of what a move on q turns
unfoldable pub flips_of : PosView → ℕ → ℕ
flips_of p q = mask_where (λ i. mem i (rules.flips (position_of Black p) q))

-- the masks after a move on q
unfoldable pub play_of : PosView → ℕ → PosView
play_of p q = discs_of (rules.play (position_of Black p) q)

-- the masks after a pass
unfoldable pub pass_of : PosView → PosView
pass_of p = discs_of (rules.pass (position_of Black p))

-- q is a move of the mover
abbrev pub IsMove : PosView → ℕ → Type 0
IsMove p q = in_mask (moves_of p) q ≡ true

-- the mover has no move
abbrev pub HasNoMove : PosView → Type 0
HasNoMove p = moves_of p ≡ 0

-- neither side has a move
abbrev pub NeitherHasMove : PosView → Type 0
NeitherHasMove p = HasNoMove p × HasNoMove (pass_of p)

-- the mask holds none but stable discs of the opponent
abbrev pub AreStable : PosView → ℕ → Type 0
AreStable p mask = (q : ℕ) → in_mask mask q ≡ true → IsStable (position_of Black p) White q

-- the number of empty squares
unfoldable pub empties_of : PosView → ℕ
empties_of p = worth.empties (position_of Black p)

-- the score with the discs as they stand
unfoldable pub final_of : Scoring → PosView → ℤ
final_of g p = final g (position_of Black p)

-- the value under a scoring
unfoldable pub value_of : Scoring → PosView → ℤ
value_of g p = worth.value g (position_of Black p)

-- the answer under a scoring
unfoldable pub answer_of : Scoring → PosView → AnswerView
answer_of g p = worth.answer g (position_of Black p)

-- q is a move that attains the value
abbrev pub is_best_move : Scoring → PosView → ℕ → Bool
is_best_move g p q =
    in_mask (moves_of p) q && int_eq (neg_ℤ (value_of g (play_of p q))) (value_of g p)

-- what attains the value: the mask of all best moves, a pass, or the end of the game
unfoldable pub best_answer : Scoring → PosView → Best
best_answer g p =
    if nat_eq (moves_of p) 0
    then (if nat_eq (moves_of (pass_of p)) 0 then Over else Pass)
    else Moves (mask_where (is_best_move g p))
