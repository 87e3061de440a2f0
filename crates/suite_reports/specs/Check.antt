-- How the scores that a line lists compare with the answer.
use Rattle.std.specs.Prelude.{ℕ, ℤ, ◌&&◌, Bool, true, false, List, [], ◌∷◌, filter, if◌then◌else◌}
use Rattle.std.specs.List.{list_all, list_any}
use Rattle.std.specs.Ordering.{int_eq}
use Rattle.othello_rules.specs.Masks.{in_mask, squares_of}
use Rattle.othello_rules.specs.Answer.{AnswerView}
use Rattle.othello_rules.specs.declared.answer.Best.{Best}
use Rattle.othello_rules.specs.declared.answer.Best.TheVariants as best
use Rattle.obf_text.specs.Fields.{Field, greatest_listed, is_move_to}
use Rattle.obf_text.specs.declared.entries.ListedMove.{ListedMove}
use Rattle.obf_text.specs.declared.entries.ListedMove.TheVariants as listed
use Rattle.suite_reports.specs.declared.check.Check.{Check}
use Rattle.suite_reports.specs.declared.check.Check.TheVariants.{Agree, Differ, Unlisted}

-- the fields with this score
abbrev pub fields_with : ℤ → List Field → List Field
fields_with score fields = filter (λ f. int_eq f.1 score) fields

-- a listed move is best: a square that is one of the best moves, a pass if the answer is a pass,
-- or the end if the game is over
abbrev pub is_best_in : Best → ListedMove → Bool
is_best_in (best.Moves mask) (listed.At q) = in_mask mask q
is_best_in best.Pass listed.Pass = true
is_best_in best.Over listed.Over = true
is_best_in _ _ = false

-- each move that is listed with this score is best
abbrev pub are_best_in : Best → ℤ → List Field → Bool
are_best_in best score fields = list_all (λ f. is_best_in best f.0) (fields_with score fields)

-- the greatest listed score is the answer's, and each move that is listed with it is best
unfoldable pub agrees : List Field → AnswerView → Bool
agrees fields answer =
    int_eq (greatest_listed fields) answer.score && are_best_in answer.best answer.score fields

-- `Unlisted` if no score is listed, otherwise whether the fields agree with the answer
unfoldable pub check : List Field → AnswerView → Check
check [] answer = Unlisted
check (f ∷ fs) answer = if agrees (f ∷ fs) answer then Agree else Differ

-- the move to the square is listed with this score
abbrev pub lists_square : List Field → ℤ → ℕ → Bool
lists_square fields score q = list_any (λ f. int_eq f.1 score && is_move_to f.0 q) fields

-- Each best move is listed with the score. If the mover has to pass, or the game is over, there
-- is nothing to choose, so nothing can be left out.
abbrev pub lists_best : List Field → ℤ → Best → Bool
lists_best fields score (best.Moves mask) = list_all (lists_square fields score) (squares_of mask)
lists_best fields score _ = true

-- `Unlisted` if no score is listed, otherwise whether the fields agree with the answer and list
-- every best move
unfoldable pub complete_check : List Field → AnswerView → Check
complete_check [] answer = Unlisted
complete_check (f ∷ fs) answer =
    if agrees (f ∷ fs) answer && lists_best (f ∷ fs) answer.score answer.best
    then Agree else Differ

-- the check of a line that has to list every best move, or need not
abbrev pub check_by : Bool → List Field → AnswerView → Check
check_by true fields answer = complete_check fields answer
check_by false fields answer = check fields answer
