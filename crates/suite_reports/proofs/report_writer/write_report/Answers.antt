use Rattle.std.proofs.Common.{◌++◌}
use Rattle.std.specs.List.{flat_map}
use Rattle.suite_reports.specs.ReportText.{head_text, last_text, report_text, row_text}
use Rattle.obf_text.proofs.WriterLemmas.{completes_more, completes_start}
use Rattle.suite_reports.proofs.report_writer.write_report.Goals as goal

pub loop-row-init : goal.loop-row-init
unfolding report_text
loop-row-init g c =
    completes_more _ _ _ (head_text c.args.file) (flat_map row_text c.args.rows.now ++ last_text c.args.rows.now) _
    (completes_start _ _) c.in_ok-write_head.ensures
