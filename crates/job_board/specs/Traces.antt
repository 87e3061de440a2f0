-- For each view that a board may have, a history that leaves it: its trace.
use Rattle.std.specs.Prelude.{ℕ, zero, suc, ◌+◌, Bool, true, false, List, [], ◌∷◌, ◌++◌, Some, Ok}
use Rattle.endgame_search.specs.Task.{TaskView}
use Rattle.job_board.specs.declared.jobs.JobId.{JobId}
use Rattle.job_board.specs.declared.jobs.Stage.{Stage}
use Rattle.job_board.specs.declared.jobs.Stage.TheVariants.{Waiting, Taken, Finished}
use Rattle.job_board.specs.declared.jobs.Handed.TheVariants as handed
use Rattle.job_board.specs.declared.steps.Step.{Step}
use Rattle.job_board.specs.declared.steps.Step.TheVariants as step
use Rattle.job_board.specs.declared.steps.Reply.{Reply}
use Rattle.job_board.specs.declared.steps.Reply.TheVariants as reply
use Rattle.job_board.specs.Senders.{SenderView, BoardView}

-- the submits of the tasks by s, and their replies: the numbers from k on
abbrev pub submit_steps : ℕ → List TaskView → List Step
submit_steps s [] = []
submit_steps s (t ∷ ts) = step.Submit s t ∷ submit_steps s ts

abbrev pub submit_replies : ℕ → List TaskView → List Reply
submit_replies k [] = []
submit_replies k (t ∷ ts) = reply.Submitted (Ok k) ∷ submit_replies (k + 1) ts

abbrev pub job_id : ℕ → ℕ → JobId
job_id s k = record { sender = s; number = k }

-- the steps that bring a taken job to its stage, and their replies
abbrev pub stage_steps : JobId → Stage → List Step
stage_steps id Waiting = step.GiveBack id ∷ []
stage_steps id Taken = []
stage_steps id (Finished a) = step.Finish id a ∷ []

abbrev pub stage_replies : Stage → List Reply
stage_replies Waiting = reply.GaveBack (Ok tt) ∷ []
stage_replies Taken = []
stage_replies (Finished a) = reply.Finished (Ok tt) ∷ []

-- the steps that take each job from number k on and bring it to its stage, and their replies
abbrev pub job_steps : ℕ → ℕ → List TaskView → List Stage → List Step
job_steps s k (t ∷ ts) (st ∷ sts) =
    step.Take ∷ (stage_steps (job_id s k) st ++ job_steps s (k + 1) ts sts)
job_steps s k _ _ = []

abbrev pub job_replies : ℕ → ℕ → List TaskView → List Stage → List Reply
job_replies s k (t ∷ ts) (st ∷ sts) =
    reply.Took (Some (record { id = job_id s k; task = t }))
    ∷ (stage_replies st ++ job_replies s (k + 1) ts sts)
job_replies s k _ _ = []

-- n delivers of s, and their replies: the answers from number k on
abbrev pub deliver_steps : ℕ → ℕ → List Step
deliver_steps s zero = []
deliver_steps s (suc n) = step.Deliver s ∷ deliver_steps s n

abbrev pub deliver_replies : ℕ → ℕ → List Stage → List Reply
deliver_replies k (suc n) (Finished a ∷ sts) =
    reply.Handed (handed.Next (record { number = k; solved = a })) ∷ deliver_replies (k + 1) n sts
deliver_replies k _ _ = []

-- the close of a sender that is closed in the view, and its reply
abbrev pub close_steps : ℕ → Bool → List Step
close_steps s true = step.Close s ∷ []
close_steps s false = []

abbrev pub close_replies : Bool → List Reply
close_replies true = reply.Closed (Ok true) ∷ []
close_replies false = []

-- the steps that bring a sender without tasks to its view, and their replies
abbrev pub state_steps : ℕ → SenderView → List Step
state_steps s state =
    submit_steps s state.tasks
    ++ (job_steps s 0 state.tasks state.stages
    ++ (deliver_steps s state.handed ++ close_steps s state.closed))

abbrev pub state_replies : ℕ → SenderView → List Reply
state_replies s state =
    submit_replies 0 state.tasks
    ++ (job_replies s 0 state.tasks state.stages
    ++ (deliver_replies 0 state.handed state.stages ++ close_replies state.closed))

-- the trace: the steps of each sender in the order of their numbers from s on, and their replies
abbrev pub trace_steps : ℕ → BoardView → List Step
trace_steps s [] = []
trace_steps s (state ∷ c) = state_steps s state ++ trace_steps (s + 1) c

abbrev pub trace_replies : ℕ → BoardView → List Reply
trace_replies s [] = []
trace_replies s (state ∷ c) = state_replies s state ++ trace_replies (s + 1) c
