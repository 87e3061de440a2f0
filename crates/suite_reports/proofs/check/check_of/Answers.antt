use Rattle.std.proofs.Common.{rules}
use Rattle.suite_reports.specs.Check.{agrees, check}
use Rattle.suite_reports.proofs.check.check_of.Goals as goal

pub returns-then-are_best_in : goal.returns-then-are_best_in
unfolding check agrees
returns-then-are_best_in c = search rules
