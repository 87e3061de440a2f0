-- The lines of a text after they were read: their tasks, and their results.
use Rattle.std.specs.Prelude.{List, Option, Some, None}
use Rattle.std.specs.List.{filter_map}
use Rattle.endgame_search.specs.Task.{TaskView}
use Rattle.othello_bits.specs.Pos.{answer_of}
use Rattle.suite_reports.specs.Check.{check_by}
use Rattle.suite_reports.specs.declared.parsed_line.ParsedLine.{ParsedLine}
use Rattle.suite_reports.specs.declared.parsed_line.ParsedLine.TheVariants as parsed
use Rattle.suite_reports.specs.declared.report_row.ReportRow.{ReportRow}
use Rattle.suite_reports.specs.declared.report_row.RowResult.{RowResult}
use Rattle.suite_reports.specs.declared.report_row.RowResult.TheVariants.{Solved, Refused}
use Rattle.suite_reports.specs.declared.numbered_line.NumberedLine.{NumberedLine}

-- the task of a line; none if the line is refused
abbrev pub task_in : ParsedLine → Option TaskView
task_in (parsed.Position task listed complete) = Some task
task_in (parsed.Refused refusal) = None

-- the result of a line: the answer of its task with the check, or its refusal
abbrev pub parsed_result : ParsedLine → RowResult
parsed_result (parsed.Position task listed complete) =
    Solved (answer_of task.scoring task.position)
    (check_by complete listed.items (answer_of task.scoring task.position))
parsed_result (parsed.Refused refusal) = Refused refusal

-- the row of a line that was read
abbrev pub row_in : NumberedLine → ReportRow
row_in numbered = record { line = numbered.number; result = parsed_result numbered.parsed }

-- the tasks of the lines that were read, in their order
abbrev pub tasks_in : List NumberedLine → List TaskView
tasks_in lines = filter_map (λ (n : NumberedLine). task_in n.parsed) lines
