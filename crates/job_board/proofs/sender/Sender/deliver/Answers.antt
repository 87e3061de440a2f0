use Rattle.std.proofs.Common.{◌≡◌, Option, None, Some, slice_get, ap, sym, ◌∙◌}
use Rattle.std.proofs.lemmas.Option.{same_Some}
use Rattle.endgame_search.specs.Task.{TaskView}
use Rattle.job_board.specs.declared.jobs.Stage.{Stage}
use Rattle.job_board.specs.declared.jobs.Stage.TheVariants.{Waiting, Taken, Finished}
use Rattle.job_board.specs.declared.jobs.Handed.TheVariants as handed
use Rattle.job_board.specs.Senders.{SenderView, with_one_handed}
use Rattle.job_board.specs.Replies.{answer_in, deliver_reply_at}
use Rattle.job_board.proofs.sender.Sender.deliver.Goals as goal

handed_over : (state : SenderView) (o : Option Stage) (a : TaskView) → answer_in o ≡ Some a
    → handed.Next (record { number = state.handed; solved = a }) ≡ deliver_reply_at state o
handed_over state None a h = cc
handed_over state (Some Waiting) a h = cc
handed_over state (Some Taken) a h = cc
handed_over state (Some (Finished b)) a h = ap (λ x. handed.Next (record { number = state.handed; solved = x })) (sym (same_Some b a h))

pub returns-in-Some-clause-reply : goal.returns-in-Some-clause-reply
returns-in-Some-clause-reply c =
    let e = ap (λ (s : SenderView). s.handed) c.self.view_is in
    let at : answer_in (slice_get c.args.self.now.stages c.self.inside.handed) ≡ Some c.in-Some.solved = sym c.answer.ensures ∙ c.in-Some.is in
    rw e (handed_over c.args.self.now _ c.in-Some.solved (rw e at at))

pub returns-in-Some-clause-state : goal.returns-in-Some-clause-state
returns-in-Some-clause-state c = ap with_one_handed c.self.view_is
