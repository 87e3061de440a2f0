use Rattle.std.proofs.Common.{rules}
use Rattle.suite_reports.specs.ReportText.{last_text}
use Rattle.suite_reports.proofs.report_writer.write_last.Goals as goal

pub returns : goal.returns
unfolding last_text
returns g c = search rules
