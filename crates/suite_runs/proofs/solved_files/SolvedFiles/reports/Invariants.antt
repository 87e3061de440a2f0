use Rattle.std.proofs.Common.{◌≡◌, ◌++◌, drop, map}
use Rattle.suite_runs.specs.Outcome.{reports_of_views}
use Rattle.suite_runs.specs.Part.{part_view_of}
use Rattle.obf_text.specs.LineText.{texts_of}
use Rattle.suite_runs.proofs.solved_files.SolvedFiles.reports.Given as goal

-- the reports so far, and those of the parts that are left, are all reports
abbrev pub invariant-loop-part : goal.invariant-loop-part
invariant-loop-part l = record {
  file : l.file ≡ l.part-index;
  whole : texts_of l.reports.items ++ reports_of_views l.part-index (map part_view_of (drop l.part-index l.self.parts.items))
      ≡ reports_of_views 0 (map part_view_of l.self.parts.items);
}
