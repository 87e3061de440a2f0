-- The lawful replies of each step at a board of view c, and the view after the step (the steps of
-- the state machine).
use Rattle.std.specs.Prelude.{ℕ, ◌≡◌, ◌≢◌, ◌==◌, ◌&&◌, ◌-◌, Bool, false, length, Option, Some, None}
use Rattle.std.specs.Prelude.{Result, Ok, Err, slice_get, if◌then◌else◌, ◌⊎◌, nat_lt, not}
use Rattle.endgame_search.specs.Task.{TaskView}
use Rattle.job_board.specs.Limits.{most_jobs}
use Rattle.job_board.specs.declared.jobs.JobId.{JobId}
use Rattle.job_board.specs.declared.jobs.Job.{Job}
use Rattle.job_board.specs.declared.jobs.Handed.{Handed}
use Rattle.job_board.specs.declared.jobs.Handed.TheVariants as handed
use Rattle.job_board.specs.declared.jobs.Stage.{Stage}
use Rattle.job_board.specs.declared.jobs.Stage.TheVariants.{Waiting, Taken, Finished}
use Rattle.job_board.specs.declared.faults.SubmitFault.{SubmitFault}
use Rattle.job_board.specs.declared.faults.SubmitFault.TheVariants as fault
use Rattle.job_board.specs.declared.faults.JobFault.{JobFault}
use Rattle.job_board.specs.declared.faults.JobFault.TheVariants.{NotTaken, OtherPosition}
use Rattle.job_board.specs.declared.faults.NoSender.{NoSender}
use Rattle.job_board.specs.Senders.{SenderView, BoardView, content_with, stage_at, task_at, with_stage}
use Rattle.job_board.specs.Senders.{with_task, with_one_handed, closed_state, is_waiting}

-- why a submit is refused, apart from lack of memory
abbrev pub submit_refusal : Option SenderView → Option SubmitFault
submit_refusal None = Some fault.NoSender
submit_refusal (Some state) =
    if state.closed then Some fault.Closed
    else (if nat_lt (most_jobs - 1) (length state.tasks) then Some fault.Full else None)

abbrev pub task_count : Option SenderView → ℕ
task_count None = 0
task_count (Some state) = length state.tasks

abbrev pub SubmitAs : Option SubmitFault → ℕ → Result ℕ SubmitFault → Type 0
SubmitAs (Some e) n r = r ≡ Err e
SubmitAs None n r = (r ≡ Ok n) ⊎ (r ≡ Err fault.Memory)

-- the lawful replies of a submit of s: its refusal if it has one; otherwise the number of tasks of
-- s that were accepted before, or `Memory`
abbrev pub Submits : BoardView → ℕ → Result ℕ SubmitFault → Type 0
Submits c s r = SubmitAs (submit_refusal (slice_get c s)) (task_count (slice_get c s)) r

abbrev pub after_submit : BoardView → ℕ → TaskView → Result ℕ SubmitFault → BoardView
after_submit c s t (Ok n) = content_with c s (with_task t)
after_submit c s t (Err e) = c

-- the lawful replies of a take: any job that waits, with its own task; None only if none waits
abbrev pub Takes : BoardView → Option Job → Type 0
Takes c (Some job) =
    (stage_at c job.id.sender job.id.number ≡ Some Waiting)
    × (task_at c job.id.sender job.id.number ≡ Some job.task)
Takes c None = (s k : ℕ) → is_waiting (stage_at c s k) ≡ false

abbrev pub after_take : BoardView → Option Job → BoardView
after_take c (Some job) = content_with c job.id.sender (with_stage job.id.number Taken)
after_take c None = c

-- the lawful replies of a finish, by the job's stage and its task
abbrev pub FinishAs : Option Stage → Option TaskView → TaskView → Result (Unit {0}) JobFault → Type 0
FinishAs (Some Taken) task a (Ok u) = task ≡ Some a
FinishAs (Some Taken) task a (Err OtherPosition) = task ≢ Some a
FinishAs (Some Taken) task a (Err NotTaken) = ⊥
FinishAs _ task a r = r ≡ Err NotTaken

-- the lawful replies of a finish: `Ok` exactly for a taken job and the answer of its own position
-- under its own scoring
abbrev pub Finishes : BoardView → JobId → TaskView → Result (Unit {0}) JobFault → Type 0
Finishes c id a r = FinishAs (stage_at c id.sender id.number) (task_at c id.sender id.number) a r

abbrev pub after_finish : BoardView → JobId → TaskView → Result (Unit {0}) JobFault → BoardView
after_finish c id a (Ok u) = content_with c id.sender (with_stage id.number (Finished a))
after_finish c id a (Err e) = c

abbrev pub give_back_reply_at : Option Stage → Result (Unit {0}) JobFault
give_back_reply_at (Some Taken) = Ok tt
give_back_reply_at _ = Err NotTaken

-- the reply of a give back: `Ok` exactly for a taken job
abbrev pub give_back_reply : BoardView → JobId → Result (Unit {0}) JobFault
give_back_reply c id = give_back_reply_at (stage_at c id.sender id.number)

abbrev pub after_give_back : BoardView → JobId → Result (Unit {0}) JobFault → BoardView
after_give_back c id (Ok u) = content_with c id.sender (with_stage id.number Waiting)
after_give_back c id (Err e) = c

-- the answer of a job at this stage; None if it is not finished
abbrev pub answer_in : Option Stage → Option TaskView
answer_in (Some (Finished a)) = Some a
answer_in _ = None

abbrev pub deliver_reply_at : SenderView → Option Stage → Handed
deliver_reply_at state (Some (Finished a)) =
    handed.Next (record { number = state.handed; solved = a })
deliver_reply_at state _ =
    if state.closed && (state.handed == length state.tasks) then handed.Drained else handed.Waiting

-- the reply of a deliver to one sender: if k answers were delivered and job k is finished, the
-- answer of job k; otherwise `Drained` if the sender is closed and all its answers were
-- delivered, and `Waiting` if not
abbrev pub deliver_reply_of : SenderView → Handed
deliver_reply_of state = deliver_reply_at state (slice_get state.stages state.handed)

abbrev pub deliver_reply_in : Option SenderView → Handed
deliver_reply_in None = handed.NoSender
deliver_reply_in (Some state) = deliver_reply_of state

abbrev pub deliver_reply : BoardView → ℕ → Handed
deliver_reply c s = deliver_reply_in (slice_get c s)

abbrev pub state_after_handed : SenderView → Handed → SenderView
state_after_handed state (handed.Next d) = with_one_handed state
state_after_handed state _ = state

abbrev pub after_deliver : BoardView → ℕ → Handed → BoardView
after_deliver c s (handed.Next d) = content_with c s with_one_handed
after_deliver c s _ = c

abbrev pub close_reply_in : Option SenderView → Result Bool NoSender
close_reply_in None = Err (record {})
close_reply_in (Some state) = Ok (not state.closed)

-- the reply of a close: whether the sender was open
abbrev pub close_reply : BoardView → ℕ → Result Bool NoSender
close_reply c s = close_reply_in (slice_get c s)

abbrev pub after_close : BoardView → ℕ → Result Bool NoSender → BoardView
after_close c s r = content_with c s closed_state
