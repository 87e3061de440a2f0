use Rattle.std.proofs.lemmas.List.Sorted.{IsPermutation-map}
use Rattle.job_board.specs.declared.job_queue.Entry.{Entry}
use Rattle.job_board.proofs.job_queue.JobQueue.pop.Goals as goal

pub returns-clause-some : goal.returns-clause-some
returns-clause-some c = rw (← c.self.view_is) (IsPermutation-map (λ (entry : Entry). entry.id.0) _ _ c.in_ok-entry.ensures.permutation)
