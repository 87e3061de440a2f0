use Rattle.std.proofs.Common.{◌≡◌, ◌++◌, ◌+◌, ◌≤◌, map}
use Rattle.obf_text.specs.LineText.{room_of}
use Rattle.suite_reports.specs.ParsedLine.{row_in, tasks_in}
use Rattle.suite_reports.specs.Rows.{rows, rows_from, tasks, tasks_from}
use Rattle.program_settings.specs.declared.limits.TheConstants.{MOST_BYTES}
use Rattle.suite_reports.proofs.numbered_line.parse_lines.Given as goal

-- the rows and tasks so far, and those of the lines that are left, are all of them
abbrev pub invariant-loop-line : goal.invariant-loop-line
invariant-loop-line l = record {
  rows : map row_in l.lines.items ++ rows_from l.fn.scoring l.fn.criteria l.number l.line-iterator ≡ rows l.fn.scoring l.fn.criteria l.fn.text;
  tasks : tasks_in l.lines.items ++ tasks_from l.fn.scoring l.fn.criteria.limit l.line-iterator ≡ tasks l.fn.scoring l.fn.criteria.limit l.fn.text;
  first : 1 ≤ l.number;
  room : l.number + room_of l.line-iterator ≤ MOST_BYTES + 2;
}
