use Rattle.std.proofs.Common.{refl}
use Rattle.job_board.specs.declared.steps.Step.TheVariants as step
use Rattle.job_board.specs.declared.steps.Reply.TheVariants as reply
use Rattle.job_board.proofs.HistoryCalls.{continues, done, ended}
use Rattle.job_board.proofs.laws.calls_continue_histories.Goals as goal

pub returns : goal.returns
returns c = record {
  empty = λ n. (tt, refl);
  submit = λ old new s t r. continues old new (step.Submit s t) (reply.Submitted r);
  take = λ old new r. continues old new step.Take (reply.Took r);
  finish = λ old new id a r. continues old new (step.Finish id a) (reply.Finished r);
  give_back = λ old new id r. continues old new (step.GiveBack id) (reply.GaveBack r);
  deliver = λ old new s r. continues old new (step.Deliver s) (reply.Handed r);
  close = λ old new s r. continues old new (step.Close s) (reply.Closed r);
  is_done = λ n ss rs legal. (ended n ss rs legal, done n ss rs legal);
}
