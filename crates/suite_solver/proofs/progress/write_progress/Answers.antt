use Rattle.std.proofs.Common.{rules}
use Rattle.suite_solver.specs.ProgressText.{progress_text}
use Rattle.suite_solver.specs.ProgressText.{total_text}
use Rattle.suite_solver.proofs.progress.write_progress.Goals as goal

pub returns-in-Some : goal.returns-in-Some
unfolding progress_text total_text
returns-in-Some g c = search rules
