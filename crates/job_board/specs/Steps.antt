-- Lists of steps with their replies (histories of the state machine).
use Rattle.std.specs.Prelude.{◌≡◌, ℕ, List, [], ◌∷◌, ◌++◌}
use Rattle.job_board.specs.declared.jobs.Handed.TheVariants as handed
use Rattle.job_board.specs.declared.steps.Step.{Step}
use Rattle.job_board.specs.declared.steps.Step.TheVariants as step
use Rattle.job_board.specs.declared.steps.Reply.{Reply}
use Rattle.job_board.specs.declared.steps.Reply.TheVariants as reply
use Rattle.job_board.specs.Senders.{BoardView, empty_content}
use Rattle.job_board.specs.Replies.{Submits, after_submit, Takes, after_take, Finishes}
use Rattle.job_board.specs.Replies.{after_finish, give_back_reply, after_give_back, deliver_reply}
use Rattle.job_board.specs.Replies.{after_deliver, close_reply, after_close}

-- the reply to the step is lawful at a board of view c
abbrev pub IsLawful : BoardView → Step → Reply → Type 0
IsLawful c (step.Submit s t) (reply.Submitted r) = Submits c s r
IsLawful c step.Take (reply.Took r) = Takes c r
IsLawful c (step.Finish id a) (reply.Finished r) = Finishes c id a r
IsLawful c (step.GiveBack id) (reply.GaveBack r) = r ≡ give_back_reply c id
IsLawful c (step.Deliver s) (reply.Handed r) = r ≡ deliver_reply c s
IsLawful c (step.Close s) (reply.Closed r) = r ≡ close_reply c s
IsLawful c _ _ = ⊥

-- the view of a board after a step with its reply, from view c
abbrev pub after : BoardView → Step → Reply → BoardView
after c (step.Submit s t) (reply.Submitted r) = after_submit c s t r
after c step.Take (reply.Took r) = after_take c r
after c (step.Finish id a) (reply.Finished r) = after_finish c id a r
after c (step.GiveBack id) (reply.GaveBack r) = after_give_back c id r
after c (step.Deliver s) (reply.Handed r) = after_deliver c s r
after c (step.Close s) (reply.Closed r) = after_close c s r
after c _ _ = c

-- the view of a board after all steps with their replies, from view c
abbrev pub after_all : BoardView → List Step → List Reply → BoardView
after_all c (s ∷ ss) (r ∷ rs) = after_all (after c s r) ss rs
after_all c _ _ = c

-- one reply for each step, and each is lawful after those before it
abbrev pub AreLawful : BoardView → List Step → List Reply → Type 0
AreLawful c [] [] = Unit {0}
AreLawful c (s ∷ ss) (r ∷ rs) = IsLawful c s r × AreLawful (after c s r) ss rs
AreLawful c _ _ = ⊥

-- A history of n senders is a list of steps with their replies. It is legal if each reply is lawful
-- after the steps and replies before it.
abbrev pub IsLegal : ℕ → List Step → List Reply → Type 0
IsLegal n ss rs = AreLawful (empty_content n) ss rs

-- the view of the board that a history of n senders leaves
abbrev pub content : ℕ → List Step → List Reply → BoardView
content n ss rs = after_all (empty_content n) ss rs

-- after a history of n senders, the reply of a deliver of s is `Drained`
abbrev pub IsDrained : ℕ → ℕ → List Step → List Reply → Type 0
IsDrained n s ss rs = handed.Drained ≡ deliver_reply (content n ss rs) s

-- after any legal history that leaves the view `old`, the step with its reply continues the history
-- to a legal one that leaves the view `new`
abbrev pub Continues : BoardView → BoardView → Step → Reply → Type 0
Continues old new st r =
    (n : ℕ) (ss : List Step) (rs : List Reply) → IsLegal n ss rs → content n ss rs ≡ old
    → IsLegal n (ss ++ st ∷ []) (rs ++ r ∷ [])
    × (content n (ss ++ st ∷ []) (rs ++ r ∷ []) ≡ new)
