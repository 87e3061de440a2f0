use Rattle.std.proofs.Common.{◌≡◌, rules, tests}
use Rattle.std.specs.Prelude.{not}
use Rattle.arrayvec.proofs.ArrayVecLemmas.{filter-from_retain}
use Rattle.job_board.specs.declared.shared_jobs.SharedId.{SharedId}
use Rattle.job_board.specs.Queues.{is_id_of}
use Rattle.job_board.specs.SharedJobs.{without}
use Rattle.job_board.proofs.SharedFacts.{shares_without}
use Rattle.job_board.proofs.shared_jobs.SharedJobs.remove.Goals as goal

pub invariant_of-self : goal.invariant_of-self
invariant_of-self c =
    let id = c.args.id in
    let left : c.retain.new.self.items ≡ without id c.self.inside.ids.items =
    filter-from_retain _ (λ (shared : SharedId). not (is_id_of id.sender id.number shared.id)) _ (λ x b f' y called. search (rules, tests)) _ _
    c.retain.ensures.filtered in
    shares_without id _ _ _ left c.self.invariant

pub returns-clause-listed : goal.returns-clause-listed
returns-clause-listed c =
    let id = c.args.id in
    rw (← c.self.view_is) (filter-from_retain _ (λ (shared : SharedId). not (is_id_of id.sender id.number shared.id)) _
    (λ x b f' y called. search (rules, tests)) _ _ c.retain.ensures.filtered)
