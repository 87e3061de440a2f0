-- The rows that a text defines.
use Rattle.std.specs.Prelude.{ℕ, nat_lt, List, option_map, Option, Some, None, if◌then◌else◌}
use Rattle.std.specs.List.{enumerate_from, filter_map}
use Rattle.othello_rules.specs.Value.{answer, empties}
use Rattle.othello_rules.specs.declared.scoring.Scoring.{Scoring}
use Rattle.othello_bits.specs.Pos.{discs_of}
use Rattle.endgame_search.specs.Task.{TaskView}
use Rattle.obf_text.specs.LineText.{lines_of}
use Rattle.obf_text.specs.Obf.{Entry, Faulty, Holds, Meaning, Skipped, item_of}
use Rattle.obf_text.specs.declared.line_fault.LineFault.{LineFault}
use Rattle.obf_text.specs.declared.line_fault.LineFault.TheVariants as fault
use Rattle.suite_reports.specs.Check.{check_by}
use Rattle.program_settings.specs.declared.criteria.Criteria.{Criteria}
use Rattle.suite_reports.specs.declared.report_row.Refusal.TheVariants as refusal
use Rattle.suite_reports.specs.declared.report_row.RowResult.{RowResult}
use Rattle.suite_reports.specs.declared.report_row.RowResult.TheVariants.{Solved, Refused}
use Rattle.suite_reports.specs.declared.report_row.ReportRow.{ReportRow}

-- the result of a position: its answer with the check; or a refusal, if it has more empty
-- squares than the limit
abbrev pub entry_result : Scoring → Criteria → Entry → RowResult
entry_result g c entry =
    if nat_lt c.limit (empties entry.position)
    then Refused (refusal.Empties (empties entry.position) c.limit)
    else Solved (answer g entry.position)
    (check_by c.complete entry.listed (answer g entry.position))

-- the result of a line with a fault; lack of memory is not the result of any line
abbrev pub fault_result : LineFault → Option RowResult
fault_result (fault.Short found) = Some (Refused (refusal.Short found))
fault_result (fault.BadCell column) = Some (Refused (refusal.BadCell column))
fault_result (fault.BadSide column) = Some (Refused (refusal.BadSide column))
fault_result fault.Memory = None

-- the task of a line: its position, if that has no more empty squares than the limit
abbrev pub task_of : Scoring → ℕ → Meaning → Option TaskView
task_of g limit (Holds entry) =
    if nat_lt limit (empties entry.position)
    then None
    else Some (record { position = discs_of entry.position; scoring = g })
task_of g limit _ = None

-- the tasks of lines, in their order
unfoldable pub tasks_from : Scoring → ℕ → List (List ℕ) → List TaskView
tasks_from g limit lines = filter_map (λ line. task_of g limit (item_of line)) lines

-- the tasks of a text, in the order of its lines
abbrev pub tasks : Scoring → ℕ → List ℕ → List TaskView
tasks g limit text = tasks_from g limit (lines_of text)

-- the result of a line by what the line says; a skipped line has none
abbrev pub line_result : Scoring → Criteria → Meaning → Option RowResult
line_result g c Skipped = None
line_result g c (Holds entry) = Some (entry_result g c entry)
line_result g c (Faulty fault) = fault_result fault

abbrev pub report_row : ℕ → RowResult → ReportRow
report_row n result = record { line = n; result = result }

-- the row of a line with its number
abbrev pub row_of : Scoring → Criteria → ℕ × List ℕ → Option ReportRow
row_of g c (n, line) = option_map (report_row n) (line_result g c (item_of line))

-- the rows of lines, the first of which has the number n
unfoldable pub rows_from : Scoring → Criteria → ℕ → List (List ℕ) → List ReportRow
rows_from g c n lines = filter_map (row_of g c) (enumerate_from n lines)

-- the rows of a text, whose lines are numbered from 1, skipped ones counted
unfoldable pub rows : Scoring → Criteria → List ℕ → List ReportRow
rows g c text = rows_from g c 1 (lines_of text)
