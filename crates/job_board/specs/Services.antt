-- The accepted submits and the turns of one client, in their order, whatever other threads do at
-- its desk.
use Rattle.std.specs.Prelude.{◌≡◌, List, [], ◌∷◌}
use Rattle.endgame_search.specs.Task.{TaskView}
use Rattle.job_board.specs.declared.jobs.Delivery.{Delivery}
use Rattle.job_board.specs.declared.client.Turn.{Turn}
use Rattle.job_board.specs.declared.client.Turn.TheVariants.{Next}
use Rattle.job_board.specs.Client.{ClientView, with_sent}
use Rattle.job_board.specs.Turns.{TurnGives}

-- a task of the client is accepted, or a turn returns to it
pub data Event : Type 0 where
  Sent : TaskView → Event
  Returned : Turn → Event

-- the events lead a client from one view to another, each as the contract of a submit or of a turn
-- says
abbrev pub Leads : ClientView → List Event → ClientView → Type 0
Leads old [] new = new ≡ old
Leads old (Sent t ∷ es) new = Leads (with_sent t old) es new
Leads old (Returned turn ∷ es) new =
    (next : ClientView) × TurnGives old next turn × Leads next es new

-- the tasks that were sent
abbrev pub sent_tasks : List Event → List TaskView
sent_tasks [] = []
sent_tasks (Sent t ∷ es) = t ∷ sent_tasks es
sent_tasks (Returned turn ∷ es) = sent_tasks es

-- the answers that the turns returned
abbrev pub received_answers : List Event → List Delivery
received_answers (Returned (Next d) ∷ es) = d ∷ received_answers es
received_answers (_ ∷ es) = received_answers es
received_answers [] = []
