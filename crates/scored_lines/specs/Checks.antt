-- The listed moves of a line against the scores of its position.
use Rattle.std.specs.Prelude.{ℤ, ◌==◌, ◌&&◌, Bool, true, false, not, List, ◌∷◌, Option, Some, None}
use Rattle.std.specs.Prelude.{if◌then◌else◌, int_lt, is_none, option_map}
use Rattle.std.specs.List.{find, list_all}
use Rattle.std.specs.Ordering.{int_eq}
use Rattle.obf_text.specs.Fields.{Field}
use Rattle.obf_text.specs.declared.entries.ListedMove.{ListedMove}
use Rattle.obf_text.specs.declared.entries.ListedMove.TheVariants.{At, Pass, Over}
use Rattle.scored_lines.specs.declared.checks.Wrong.{Wrong}

abbrev pub same_move : ListedMove → ListedMove → Bool
same_move (At a) (At b) = a == b
same_move Pass Pass = true
same_move Over Over = true
same_move _ _ = false

-- the score of a move among the scores of a position; none if the position has no such move
abbrev pub score_in : List Field → ListedMove → Option ℤ
score_in scores move = option_map (λ f. f.1) (find (λ f. same_move f.0 move) scores)

abbrev pub wrong : Field → Option ℤ → Wrong
wrong f score = record { listed = f.0; claimed = f.1; score = score }

abbrev pub wrong_if : Field → Option ℤ → Option Wrong
wrong_if f None = Some (wrong f None)
wrong_if f (Some score) = if int_eq score f.1 then None else Some (wrong f (Some score))

-- a listed move is wrong if its score is another one, or the position has no such move
abbrev pub wrong_in : List Field → Field → Option Wrong
wrong_in scores f = wrong_if f (score_in scores f.0)

-- no move has a greater score
abbrev pub is_greatest : List Field → ℤ → Bool
is_greatest scores score = list_all (λ f. not (int_lt score f.1)) scores

-- A best move that is not listed. A pass and the end of the game are not moves to choose from.
abbrev pub is_left_out : List Field → List Field → Field → Bool
is_left_out scores listed (At q, score) =
    is_greatest scores score && is_none (score_in listed (At q))
is_left_out scores listed (_, score) = false

-- every best move is asked for, and the line lists moves
abbrev pub asks_for_best : Bool → List Field → Bool
asks_for_best true (f ∷ more) = true
asks_for_best _ _ = false
