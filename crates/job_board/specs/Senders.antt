-- What a board holds: the jobs of each sender (queues of work, as a state machine).
use Rattle.std.specs.Prelude.{ℕ, ◌+◌, Bool, true, false, List, [], ◌∷◌, ◌++◌, Option, Some, None}
use Rattle.std.specs.Prelude.{slice_get, slice_set, replicate}
use Rattle.endgame_search.specs.Task.{TaskView}
use Rattle.job_board.specs.declared.jobs.Stage.{Stage}
use Rattle.job_board.specs.declared.jobs.Stage.TheVariants.{Waiting, Taken, Finished}

-- what contracts see of one sender: its accepted tasks, the stage of each, how many answers were
-- delivered to it, and whether it is closed
pub record SenderView : Type 0 where
  pub tasks : List TaskView
  pub stages : List Stage
  pub handed : ℕ
  pub closed : Bool

-- what contracts see of a board: the view of each sender, in the order of their numbers from 0
abbrev pub BoardView : Type 0
BoardView = List SenderView

abbrev pub empty_state : SenderView
empty_state = record { tasks = []; stages = []; handed = 0; closed = false }

-- the view of a board of n senders, none of which has submitted a task
abbrev pub empty_content : ℕ → BoardView
empty_content n = replicate n empty_state

abbrev pub content_by : BoardView → ℕ → (SenderView → SenderView) → Option SenderView → BoardView
content_by c s f None = c
content_by c s f (Some state) = slice_set c s (f state)

-- c with f applied to the view of sender s, if there is such a sender
abbrev pub content_with : BoardView → ℕ → (SenderView → SenderView) → BoardView
content_with c s f = content_by c s f (slice_get c s)

abbrev pub stage_of_job : ℕ → Option SenderView → Option Stage
stage_of_job k None = None
stage_of_job k (Some state) = slice_get state.stages k

-- the stage of job k of sender s; None if there is no such job
abbrev pub stage_at : BoardView → ℕ → ℕ → Option Stage
stage_at c s k = stage_of_job k (slice_get c s)

abbrev pub task_of_job : ℕ → Option SenderView → Option TaskView
task_of_job k None = None
task_of_job k (Some state) = slice_get state.tasks k

-- the task of job k of sender s; None if there is no such job
abbrev pub task_at : BoardView → ℕ → ℕ → Option TaskView
task_at c s k = task_of_job k (slice_get c s)

abbrev pub is_waiting : Option Stage → Bool
is_waiting (Some Waiting) = true
is_waiting _ = false

abbrev pub is_taken : Stage → Bool
is_taken Taken = true
is_taken _ = false

abbrev pub is_finished : Option Stage → Bool
is_finished (Some (Finished a)) = true
is_finished _ = false

-- one more task is accepted, and waits
abbrev pub with_task : TaskView → SenderView → SenderView
with_task t state =
    record state { tasks = state.tasks ++ t ∷ []; stages = state.stages ++ Waiting ∷ [] }

-- job k has this stage from now on
abbrev pub with_stage : ℕ → Stage → SenderView → SenderView
with_stage k stage state = record state { stages = slice_set state.stages k stage }

-- one more answer is delivered
abbrev pub with_one_handed : SenderView → SenderView
with_one_handed state = record state { handed = state.handed + 1 }

abbrev pub closed_state : SenderView → SenderView
closed_state state = record state { closed = true }
