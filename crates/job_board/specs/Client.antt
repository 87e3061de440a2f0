-- What contracts see of a client.
use Rattle.std.specs.Prelude.{ℕ, List, [], ◌∷◌, ◌++◌}
use Rattle.endgame_search.specs.Task.{TaskView}

-- its sender, the tasks that it sent, and how many of their answers it received
pub record ClientView : Type 0 where
  pub sender : ℕ
  pub sent : List TaskView
  pub received : ℕ

abbrev pub new_client : ℕ → ClientView
new_client sender = record { sender = sender; sent = []; received = 0 }

abbrev pub with_sent : TaskView → ClientView → ClientView
with_sent t me = record me { sent = me.sent ++ t ∷ [] }
