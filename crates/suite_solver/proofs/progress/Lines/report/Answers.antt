use Rattle.std.proofs.Common.{rules}
use Rattle.suite_solver.proofs.progress.Lines.report.Goals as goal

pub returns-clause-written : goal.returns-clause-written
returns-clause-written g c = search rules

pub returns-clause-kept : goal.returns-clause-kept
returns-clause-kept g c = search rules
