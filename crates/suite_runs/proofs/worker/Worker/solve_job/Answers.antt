use Rattle.std.proofs.Common.{rules}
use Rattle.suite_runs.proofs.worker.Worker.solve_job.Goals as goal

pub answer-requires : goal.answer-requires
answer-requires g c = search rules
