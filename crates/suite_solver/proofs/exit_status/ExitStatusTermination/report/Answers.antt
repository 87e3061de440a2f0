use Rattle.suite_solver.proofs.exit_status.ExitStatusTermination.report.Goals as goal

pub returns : goal.returns
returns g c = c.from.ensures
