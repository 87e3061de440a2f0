use Rattle.ffoscores_program.proofs.exit_status.ExitStatusTermination.report.Goals as goal

pub returns : goal.returns
returns g c = c.from.ensures
