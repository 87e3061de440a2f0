use Rattle.std.proofs.Common.{◌<◌, ap, ◌∙◌, rules}
use Rattle.job_board.specs.SharedJobs.{SharedView}
use Rattle.job_board.proofs.SharedFacts.{shares_more}
use Rattle.job_board.proofs.shared_jobs.SharedJobs.add.Goals as goal

pub invariant_of-self : goal.invariant_of-self
invariant_of-self c =
    let id = c.args.id in
    let listed = ap (λ (v : SharedView). v.listed) c.self-2.view_is ∙ c.remove.ensures.listed in
    let above : c.self-2.inside.last < c.in-Some.place = search rules in
    shares_more c.try_push.result (λ v. v.items) c.self-2.inside.ids c.try_push.new.self id _ _ _ listed c.self-2.invariant above
    c.try_push.ensures.ok c.try_push.ensures.err
