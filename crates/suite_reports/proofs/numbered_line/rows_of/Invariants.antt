use Rattle.std.proofs.Common.{◌≡◌, drop, map, take}
use Rattle.std.specs.Slice.Iter.{iter_rest}
use Rattle.suite_reports.specs.ParsedLine.{row_in, tasks_in}
use Rattle.suite_reports.proofs.numbered_line.rows_of.Given as goal

-- the answers that are left are those of the lines that are left
abbrev pub invariant-loop-numbered : goal.invariant-loop-numbered
invariant-loop-numbered l = record {
  rows : l.rows.items ≡ map row_in (take l.numbered-index l.lines);
  answers : iter_rest l.answers ≡ tasks_in (drop l.numbered-index l.lines);
}
