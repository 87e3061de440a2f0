use Rattle.std.proofs.Common.{rules}
use Rattle.suite_reports.proofs.parsed_line.parse_line.Goals as goal

pub returns-clause-result : goal.returns-clause-result
returns-clause-result c = search rules
