use Rattle.std.proofs.Common.{rules}
use Rattle.suite_solver.proofs.ffosolve.place_of_run.Goals as goal

pub returns-in_err-check_files-clause-files : goal.returns-in_err-check_files-clause-files
returns-in_err-check_files-clause-files g c = search rules

pub returns-clause-files : goal.returns-clause-files
returns-clause-files g c = search rules
