use Rattle.std.proofs.Common.{rules}
use Rattle.suite_reports.specs.ReportText.{head_text}
use Rattle.suite_reports.proofs.report_writer.write_head.Goals as goal

pub returns : goal.returns
unfolding head_text
returns g c = search rules
