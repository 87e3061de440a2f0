use Rattle.suite_solver.proofs.progress.solve_with_progress.Goals as goal

pub returns-clause-solved : goal.returns-clause-solved
returns-clause-solved g c = c.solve_files-solved.ensures
