-- What the steps and replies of a history say of one sender, and of one job.
use Rattle.std.specs.Prelude.{ℕ, ◌≡◌, ◌+◌, ◌<◌, ◌==◌, ◌||◌, Bool, false, List, [], ◌∷◌, ◌++◌}
use Rattle.std.specs.Prelude.{length, true, Some, Ok, slice_get, if◌then◌else◌}
use Rattle.endgame_search.specs.Task.{TaskView}
use Rattle.job_board.specs.declared.jobs.Delivery.{Delivery}
use Rattle.job_board.specs.declared.jobs.Handed.TheVariants as handed
use Rattle.job_board.specs.declared.jobs.Stage.{Stage}
use Rattle.job_board.specs.declared.jobs.Stage.TheVariants.{Waiting, Taken, Finished}
use Rattle.job_board.specs.declared.steps.Step.{Step}
use Rattle.job_board.specs.declared.steps.Step.TheVariants as step
use Rattle.job_board.specs.declared.steps.Reply.{Reply}
use Rattle.job_board.specs.declared.steps.Reply.TheVariants as reply
use Rattle.job_board.specs.Senders.{SenderView, is_finished}
use Rattle.job_board.specs.Queues.{is_id_of}

abbrev pub tasks_by : ℕ → Step → Reply → List TaskView
tasks_by s (step.Submit s' t) (reply.Submitted (Ok n)) = if s' == s then t ∷ [] else []
tasks_by s _ _ = []

-- the tasks of the submits of s that were answered with a number
abbrev pub accepted_tasks : ℕ → List Step → List Reply → List TaskView
accepted_tasks s (st ∷ ss) (r ∷ rs) = tasks_by s st r ++ accepted_tasks s ss rs
accepted_tasks s _ _ = []

abbrev pub deliveries_by : ℕ → Step → Reply → List Delivery
deliveries_by s (step.Deliver s') (reply.Handed (handed.Next d)) = if s' == s then d ∷ [] else []
deliveries_by s _ _ = []

-- the answers that the delivers of s returned
abbrev pub deliveries_to : ℕ → List Step → List Reply → List Delivery
deliveries_to s (st ∷ ss) (r ∷ rs) = deliveries_by s st r ++ deliveries_to s ss rs
deliveries_to s _ _ = []

abbrev pub is_closed_by : ℕ → Step → Reply → Bool
is_closed_by s (step.Close s') (reply.Closed (Ok true)) = s' == s
is_closed_by s _ _ = false

-- whether a close of s was answered true
abbrev pub is_closed : ℕ → List Step → List Reply → Bool
is_closed s (st ∷ ss) (r ∷ rs) = is_closed_by s st r || is_closed s ss rs
is_closed s _ _ = false

-- the stage of job k of s after a step, where it was `stage` before
abbrev pub stage_by : ℕ → ℕ → Stage → Step → Reply → Stage
stage_by s k stage step.Take (reply.Took (Some job)) =
    if is_id_of s k job.id then Taken else stage
stage_by s k stage (step.Finish id a) (reply.Finished (Ok u)) =
    if is_id_of s k id then Finished a else stage
stage_by s k stage (step.GiveBack id) (reply.GaveBack (Ok u)) =
    if is_id_of s k id then Waiting else stage
stage_by s k stage _ _ = stage

-- the stage of job k of s after all steps: that of the last accepted take, finish or give back of
-- the job, or `stage` if there was none
abbrev pub stage_after : ℕ → ℕ → Stage → List Step → List Reply → Stage
stage_after s k stage (st ∷ ss) (r ∷ rs) = stage_after s k (stage_by s k stage st r) ss rs
stage_after s k stage _ _ = stage

-- the view of sender s is what the steps and replies say
pub record IsStateOf (s : ℕ) (ss : List Step) (rs : List Reply) (state : SenderView) : Type 0 where
  pub tasks : state.tasks ≡ accepted_tasks s ss rs
  pub each_staged : length state.stages ≡ length (accepted_tasks s ss rs)
  pub stages : (k : ℕ) → k < length (accepted_tasks s ss rs)
      → slice_get state.stages k ≡ Some (stage_after s k Waiting ss rs)
  pub handed : state.handed ≡ length (deliveries_to s ss rs)
  pub closed : state.closed ≡ is_closed s ss rs

-- each of n senders was closed, and each of its accepted jobs is finished
abbrev pub HaveEnded : ℕ → List Step → List Reply → Type 0
HaveEnded n ss rs = (s : ℕ) → s < n
    → (is_closed s ss rs ≡ true)
    × ((k : ℕ) → k < length (accepted_tasks s ss rs)
    → is_finished (Some (stage_after s k Waiting ss rs)) ≡ true)

-- the deliveries have the numbers from first on, one after the other, and solve the tasks of these
-- numbers
abbrev pub InOrder : List TaskView → ℕ → List Delivery → Type 0
InOrder tasks first [] = Unit {0}
InOrder tasks first (d ∷ ds) =
    (d.number ≡ first) × (slice_get tasks first ≡ Some d.solved) × InOrder tasks (first + 1) ds
