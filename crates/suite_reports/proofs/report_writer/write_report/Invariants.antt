use Rattle.std.proofs.Common.{◌++◌, drop}
use Rattle.std.specs.List.{flat_map}
use Rattle.suite_reports.specs.ReportText.{last_text, report_text, row_text}
use Rattle.obf_text.proofs.WriterLemmas.{Completes}
use Rattle.suite_reports.proofs.report_writer.write_report.Given as goal

abbrev pub invariant-loop-row : goal.invariant-loop-row
invariant-loop-row g l =
    Completes (g.W.Write.contents l.fn.writer) (g.W.Write.contents l.writer)
    (flat_map row_text (drop l.row-index l.rows) ++ last_text l.rows) (report_text l.fn.file l.rows)
