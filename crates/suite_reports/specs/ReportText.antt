-- The bytes of a report.
use Rattle.std.specs.Prelude.{ℕ, ◌+◌, ◌-◌, Bool, true, false, List, [], ◌∷◌, ◌++◌, length, map, count_by, codes}
use Rattle.std.specs.List.{flat_map, join_with_byte}
use Rattle.std.specs.Fmt.{decimal}
use Rattle.othello_rules.specs.Board.{name_of}
use Rattle.othello_rules.specs.Masks.{squares_of}
use Rattle.othello_rules.specs.Answer.{AnswerView}
use Rattle.obf_text.specs.Written.{score_text}
use Rattle.othello_rules.specs.declared.answer.Best.{Best}
use Rattle.othello_rules.specs.declared.answer.Best.TheVariants.{Moves, Pass, Over}
use Rattle.obf_text.specs.Faults.{line_fault_text, too_many_text}
use Rattle.obf_text.specs.declared.line_fault.LineFault.TheVariants as fault
use Rattle.suite_reports.specs.declared.check.Check.{Check}
use Rattle.suite_reports.specs.declared.check.Check.TheVariants.{Agree, Differ, Unlisted}
use Rattle.suite_reports.specs.declared.report_row.Refusal.{Refusal}
use Rattle.suite_reports.specs.declared.report_row.Refusal.TheVariants.{Short, BadCell, BadSide, Empties}
use Rattle.suite_reports.specs.declared.report_row.RowResult.{RowResult}
use Rattle.suite_reports.specs.declared.report_row.RowResult.TheVariants.{Solved, Refused}
use Rattle.suite_reports.specs.declared.report_row.ReportRow.{ReportRow}

-- the names of squares with a comma between each two
unfoldable pub names_text : List ℕ → List ℕ
names_text squares = join_with_byte 44 (map name_of squares)

-- a comma and the name of a square
unfoldable pub comma_name : ℕ → List ℕ
comma_name square = 44 ∷ name_of square

-- the names of the best moves; `PS` for a pass, `--` if the game is over
unfoldable pub best_text : Best → List ℕ
best_text (Moves mask) = names_text (squares_of mask)
best_text Pass = codes "PS"
best_text Over = codes "--"

unfoldable pub check_text : Check → List ℕ
check_text Agree = codes "agree"
check_text Differ = codes "differ"
check_text Unlisted = codes "unlisted"

unfoldable pub refusal_text : Refusal → List ℕ
refusal_text (Short found) = line_fault_text (fault.Short found)
refusal_text (BadCell column) = line_fault_text (fault.BadCell column)
refusal_text (BadSide column) = line_fault_text (fault.BadSide column)
refusal_text (Empties found limit) = too_many_text found limit

-- the score, a space, and the best moves
unfoldable pub score_and_best_text : AnswerView → List ℕ
score_and_best_text answer = score_text answer.score ++ (codes " " ++ best_text answer.best)

-- the result in a row: the score, the best moves and the check; or why the line was refused
unfoldable pub result_text : RowResult → List ℕ
result_text (Solved answer check) = score_and_best_text answer ++ (codes " " ++ check_text check)
result_text (Refused refusal) = codes "refused: " ++ refusal_text refusal

-- the line of a row: the number of the line in its file, and the result
unfoldable pub row_text : ReportRow → List ℕ
row_text row = decimal row.line ++ (codes " " ++ (result_text row.result ++ 10 ∷ []))

abbrev pub is_solved : RowResult → Bool
is_solved (Solved answer check) = true
is_solved (Refused refusal) = false

-- the number of solved rows
unfoldable pub solved_count : List ReportRow → ℕ
solved_count rows = count_by (λ row. is_solved row.result) rows

-- the first line: the number of the file, which counts from 0, plus 1
unfoldable pub head_text : ℕ → List ℕ
head_text file = codes "[" ++ (decimal (file + 1) ++ (codes "]" ++ 10 ∷ []))

-- the last line: the number of solved rows, and the number of refused rows
unfoldable pub last_text : List ReportRow → List ℕ
last_text rows =
    codes "solved " ++ (decimal (solved_count rows)
    ++ (codes " refused " ++ (decimal (length rows - solved_count rows) ++ 10 ∷ [])))

-- the first line, a line for each row, and the last line
unfoldable pub report_text : ℕ → List ReportRow → List ℕ
report_text file rows = head_text file ++ (flat_map row_text rows ++ last_text rows)
