use Rattle.ffoscores_program.proofs.exit_status.print_error.Goals as goal

pub returns-clause-status : goal.returns-clause-status
returns-clause-status g c = c.list_status.ensures
