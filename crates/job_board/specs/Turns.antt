-- What a turn returns to its client.
use Rattle.std.specs.Prelude.{◌≡◌, ◌+◌, ◌<◌, ℕ, ⊤, length, Option, Some, None, Result, Ok, Err, slice_get}
use Rattle.job_board.specs.declared.jobs.Delivery.{Delivery}
use Rattle.job_board.specs.declared.jobs.Handed.{Handed}
use Rattle.job_board.specs.declared.jobs.Handed.TheVariants as handed
use Rattle.job_board.specs.declared.faults.Mixed.{Mixed}
use Rattle.job_board.specs.declared.client.Turn.{Turn}
use Rattle.job_board.specs.declared.desk.Errand.{Errand}
use Rattle.job_board.specs.declared.desk.Errand.TheVariants.{Own, Help}
use Rattle.job_board.specs.declared.client.Turn.TheVariants.{Next, Work, Drained}
use Rattle.job_board.specs.Senders.{BoardView, content_with, with_one_handed}
use Rattle.job_board.specs.Replies.{Takes, after_take}
use Rattle.job_board.specs.Client.{ClientView}

-- the delivery is the client's next answer: its number is how many answers the client received
-- before, and it is the answer of the sent task of that number
abbrev pub IsNext : ClientView → Delivery → Type 0
IsNext me d = (d.number ≡ me.received) × (slice_get me.sent me.received ≡ Some d.solved)

-- the answers of all sent tasks came back
abbrev pub IsServed : ClientView → Type 0
IsServed me = me.received ≡ length me.sent

-- what a turn may return, and the client's view after it: the next answer, which is counted; or a
-- job; or `Drained`, if the answers of all sent tasks came back
abbrev pub TurnGives : ClientView → ClientView → Turn → Type 0
TurnGives old new (Next d) = IsNext old d × (new ≡ record old { received = old.received + 1 })
TurnGives old new (Work job) = new ≡ old
TurnGives old new Drained = (new ≡ old) × IsServed old

-- the same, where the client may get a job to help with instead
abbrev pub ErrandGives : ClientView → ClientView → Errand Turn → Type 0
ErrandGives old new (Own turn) = TurnGives old new turn
ErrandGives old new (Help shared) = new ≡ old

-- a job to help with has a higher place in the list of shared jobs than n
abbrev pub IsLater : {T : Type 0} → ℕ → Errand T → Type 0
IsLater n (Own own) = ⊤
IsLater n (Help shared) = n < shared.place

-- One hold of the lock in a turn at a board of view c, by the reply of the board's deliver: what
-- the turn finds, and the board's view after it. It finds None if the client has to wait.
abbrev pub LooksAt : BoardView → ClientView → Handed → Option (Result Turn Mixed) → BoardView → Type 0
LooksAt c me (handed.Next d) (Some (Ok turn)) new =
    (turn ≡ Next d) × IsNext me d × (new ≡ content_with c me.sender with_one_handed)
LooksAt c me (handed.Next d) (Some (Err mixed)) new =
    (IsNext me d → ⊥) × (new ≡ content_with c me.sender with_one_handed)
LooksAt c me handed.Drained (Some (Ok turn)) new = (turn ≡ Drained) × IsServed me × (new ≡ c)
LooksAt c me handed.Drained (Some (Err mixed)) new = (IsServed me → ⊥) × (new ≡ c)
LooksAt c me handed.NoSender (Some (Err mixed)) new = new ≡ c
LooksAt c me handed.Waiting (Some (Ok (Work job))) new =
    Takes c (Some job) × (new ≡ after_take c (Some job))
LooksAt c me handed.Waiting None new = Takes c None × (new ≡ c)
LooksAt c me _ _ new = ⊥
