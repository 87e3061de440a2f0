use Rattle.std.proofs.lemmas.List.Sorted.{IsPermutation-map}
use Rattle.job_board.specs.declared.job_queue.Entry.{Entry}
use Rattle.job_board.proofs.job_queue.JobQueue.push.Goals as goal

pub returns-clause-jobs : goal.returns-clause-jobs
returns-clause-jobs c = rw (← c.self.view_is) (IsPermutation-map (λ (entry : Entry). entry.id.0) _ _ c.in-Ok.ensures.permutation)
