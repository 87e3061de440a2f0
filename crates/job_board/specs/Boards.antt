-- What holds of a board between any two steps (the invariant of the state machine).
use Rattle.std.specs.Prelude.{ℕ, ◌≡◌, ◌+◌, ◌<◌, ◌≤◌, Bool, true, List, length, Some, slice_get}
use Rattle.std.specs.Prelude.{count_by, sum_by, if◌then◌else◌}
use Rattle.endgame_search.specs.Task.{TaskView}
use Rattle.job_board.specs.declared.jobs.JobId.{JobId}
use Rattle.job_board.specs.declared.jobs.Stage.{Stage}
use Rattle.job_board.specs.declared.jobs.Stage.TheVariants.{Finished}
use Rattle.job_board.specs.Limits.{most_jobs, most_senders}
use Rattle.job_board.specs.Queues.{id_count}
use Rattle.job_board.specs.Senders.{SenderView, BoardView, stage_at, is_waiting, is_taken, is_finished}

-- of one sender: each job has a stage; a finished job has the answer of its own task; the jobs
-- whose answers were delivered are the first ones, and all of them are finished
pub record IsSender (state : SenderView) : Type 0 where
  pub stages : length state.stages ≡ length state.tasks
  pub most : length state.tasks ≤ most_jobs
  pub handed : state.handed ≤ length state.tasks
  pub finished : (k : ℕ) → k < state.handed → is_finished (slice_get state.stages k) ≡ true
  pub solved : (k : ℕ) (a : TaskView)
      → slice_get state.stages k ≡ Some (Finished a) → slice_get state.tasks k ≡ Some a

abbrev pub IsBoardView : BoardView → Type 0
IsBoardView c = (s : ℕ) (state : SenderView) → slice_get c s ≡ Some state → IsSender state

abbrev pub bit : Bool → ℕ
bit b = if b then 1 else 0

-- the queue names exactly the waiting jobs, each once
abbrev pub ListsWaiting : List JobId → BoardView → Type 0
ListsWaiting ids c = (s k : ℕ) → id_count s k ids ≡ bit (is_waiting (stage_at c s k))

abbrev pub taken_in : SenderView → ℕ
taken_in state = count_by is_taken state.stages

-- how many jobs are taken
abbrev pub taken_count : BoardView → ℕ
taken_count c = sum_by taken_in c

-- what holds of a board: c is the view of its senders, ids names the jobs that wait,
-- taken is the number of taken jobs, and room is enough for all waiting and taken jobs
pub record IsBoard (c : BoardView) (ids : List JobId) (taken room : ℕ) : Type 0 where
  pub few : length c ≤ most_senders
  pub content : IsBoardView c
  pub lists : ListsWaiting ids c
  pub counts : taken ≡ taken_count c
  pub has_room : length ids + taken ≤ room

-- each sender is closed, and each of its jobs finished
abbrev pub AllDone : BoardView → Type 0
AllDone c = (s : ℕ) (state : SenderView) → slice_get c s ≡ Some state
    → (state.closed ≡ true)
    × ((k : ℕ) (stage : Stage)
    → slice_get state.stages k ≡ Some stage → is_finished (Some stage) ≡ true)
