use Rattle.suite_reports.proofs.CheckLaws.{exactly_listed}
use Rattle.suite_reports.proofs.laws.complete_lists_are_exact.Goals as goal

pub returns : goal.returns
returns c = exactly_listed
