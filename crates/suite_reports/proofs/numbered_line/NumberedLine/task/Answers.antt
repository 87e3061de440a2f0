use Rattle.std.proofs.Common.{rules}
use Rattle.suite_reports.proofs.numbered_line.NumberedLine.task.Goals as goal

pub returns : goal.returns
returns c = search rules
