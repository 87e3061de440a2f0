-- The answers that are delivered to a sender are in order.
use Rattle.std.proofs.Common.{◌≡◌, ℕ, suc, zero, ◌+◌, ◌<◌, ◌==◌, ◌&&◌, Bool, true, false, List, [], ◌∷◌, ◌++◌, length}
use Rattle.std.proofs.Common.{Option, Some, None, Ok, slice_get, cond, ltb, refl, sym, ap, ◌∙◌, subst, arith, inl, inr}
use Rattle.std.proofs.Common.{length-append, append-nil, append_assoc}
use Rattle.std.proofs.lemmas.Bool.{cases_eq, ne_eqb, eqb-true, false≢true}
use Rattle.endgame_search.specs.Task.{TaskView}
use Rattle.job_board.specs.declared.jobs.Delivery.{Delivery}
use Rattle.job_board.specs.declared.jobs.Stage.{Stage}
use Rattle.job_board.specs.declared.jobs.Stage.TheVariants.{Waiting, Taken, Finished}
use Rattle.job_board.specs.declared.jobs.Handed.TheVariants as handed
use Rattle.job_board.specs.declared.steps.Step.{Step}
use Rattle.job_board.specs.declared.steps.Step.TheVariants as step
use Rattle.job_board.specs.declared.steps.Reply.{Reply}
use Rattle.job_board.specs.declared.steps.Reply.TheVariants as reply
use Rattle.job_board.specs.declared.faults.SubmitFault.TheVariants as fault
use Rattle.job_board.specs.Senders.{SenderView, BoardView, with_task, with_stage, with_one_handed, closed_state, empty_state, empty_content}
use Rattle.job_board.specs.Boards.{IsSender}
use Rattle.job_board.specs.Replies.{SubmitAs, submit_refusal, task_count, deliver_reply_at, deliver_reply_in, deliver_reply}
use Rattle.job_board.specs.Steps.{IsLawful, after, AreLawful, after_all}
use Rattle.job_board.specs.Histories.{tasks_by, accepted_tasks, deliveries_by, deliveries_to, InOrder}
use Rattle.job_board.proofs.BoardFacts.{next_facts}
use Rattle.job_board.proofs.StateSteps.{state_step, state_after, state_kept, cond_same, tasks_step, handed_step, slice_get-replicate, empty_is_state}

pub slice_get-append : {X : Type 0} (xs ys : List X) (k : ℕ) (x : X) → slice_get xs k ≡ Some x → slice_get (xs ++ ys) k ≡ Some x
slice_get-append [] ys k x e = cc
slice_get-append (y ∷ xs) ys zero x e = e
slice_get-append (y ∷ xs) ys (suc k) x e = slice_get-append xs ys k x e

one_if : (b : Bool) (tasks : List TaskView) (first : ℕ) (d : Delivery)
    → (b ≡ true → (d.number ≡ first) × (slice_get tasks first ≡ Some d.solved)) → InOrder tasks first (cond b (d ∷ []) [])
one_if true tasks first d h = let p = h refl in (p.0, p.1, tt)
one_if false tasks first d h = tt

-- the answer that one step delivers is the sender's next
one_in_order : (c : BoardView) (s : ℕ) (state : SenderView) (st : Step) (r : Reply) (more : List TaskView)
    → slice_get c s ≡ Some state → IsSender state → IsLawful c st r → InOrder (state.tasks ++ more) state.handed (deliveries_by s st r)
one_in_order c s state (step.Deliver s') (reply.Handed (handed.Next d)) more at h law =
    one_if (s' == s) (state.tasks ++ more) state.handed d (λ is.
    let e : handed.Next d ≡ deliver_reply_at state (slice_get state.stages state.handed) =
    law ∙ ap deliver_reply_in (ap (slice_get c) (eqb-true s' s is) ∙ at) in
    let facts = next_facts state d (slice_get state.stages state.handed) e in
    (facts.0, slice_get-append state.tasks more state.handed d.solved (h.solved state.handed d.solved facts.1)))
one_in_order c s state _ _ more at h law = tt

InOrder-append : (tasks : List TaskView) (first : ℕ) (ds es : List Delivery) → InOrder tasks first ds
    → InOrder tasks (first + length ds) es → InOrder tasks first (ds ++ es)
InOrder-append tasks first [] es h more = let P : ℕ → Type 0 = λ n. InOrder tasks n es in subst P (omega arith) more
InOrder-append tasks first (d ∷ ds) es h more =
    (h.0, h.1, InOrder-append tasks (first + 1) ds es h.2 (let P : ℕ → Type 0 = λ n. InOrder tasks n es in subst P (omega arith) more))

-- from any view of a board on, the answers that are delivered to a sender are in order
pub rest_in_order : (c : BoardView) (s : ℕ) (state : SenderView) (ss : List Step) (rs : List Reply)
    → slice_get c s ≡ Some state → IsSender state → AreLawful c ss rs
    → InOrder (state.tasks ++ accepted_tasks s ss rs) state.handed (deliveries_to s ss rs)
rest_in_order c s state [] [] at h law = tt
rest_in_order c s state [] (r ∷ rs) at h law = absurd law
rest_in_order c s state (st ∷ ss) [] at h law = absurd law
rest_in_order c s state (st ∷ ss) (r ∷ rs) at h law =
    let new : SenderView = state_step s state st r in
    let rest : InOrder (new.tasks ++ accepted_tasks s ss rs) new.handed (deliveries_to s ss rs) =
    rest_in_order (after c st r) s new ss rs (state_after c s state st r at) (state_kept c s state st r at h law.0) law.1 in
    let tasks : new.tasks ++ accepted_tasks s ss rs ≡ state.tasks ++ (tasks_by s st r ++ accepted_tasks s ss rs) =
    ap (λ l. l ++ accepted_tasks s ss rs) (tasks_step s state st r) ∙ append_assoc state.tasks (tasks_by s st r) (accepted_tasks s ss rs) in
    let P : List TaskView → Type 0 = λ l. InOrder l new.handed (deliveries_to s ss rs) in
    let Q : ℕ → Type 0 = λ n. InOrder (state.tasks ++ (tasks_by s st r ++ accepted_tasks s ss rs)) n (deliveries_to s ss rs) in
    InOrder-append (state.tasks ++ (tasks_by s st r ++ accepted_tasks s ss rs)) state.handed (deliveries_by s st r) (deliveries_to s ss rs)
    (one_in_order c s state st r (tasks_by s st r ++ accepted_tasks s ss rs) at h law.0)
    (subst Q (handed_step s state st r) (subst P tasks rest))

-- in a history, the answers that are delivered to a sender are in order
pub all_in_order : (n s : ℕ) (ss : List Step) (rs : List Reply) → s < n → AreLawful (empty_content n) ss rs
    → InOrder (accepted_tasks s ss rs) 0 (deliveries_to s ss rs)
all_in_order n s ss rs lt law = rest_in_order (empty_content n) s empty_state ss rs (slice_get-replicate n s empty_state lt) empty_is_state law

abbrev pub state_all : ℕ → SenderView → List Step → List Reply → SenderView
state_all s state (st ∷ ss) (r ∷ rs) = state_all s (state_step s state st r) ss rs
state_all s state _ _ = state

pub state_after_all : (c : BoardView) (s : ℕ) (state : SenderView) (ss : List Step) (rs : List Reply)
    → slice_get c s ≡ Some state → slice_get (after_all c ss rs) s ≡ Some (state_all s state ss rs)
state_after_all c s state [] [] at = at
state_after_all c s state [] (r ∷ rs) at = at
state_after_all c s state (st ∷ ss) [] at = at
state_after_all c s state (st ∷ ss) (r ∷ rs) at = state_after_all (after c st r) s (state_step s state st r) ss rs (state_after c s state st r at)

pub tasks_all : (s : ℕ) (state : SenderView) (ss : List Step) (rs : List Reply) → (state_all s state ss rs).tasks ≡ state.tasks ++ accepted_tasks s ss rs
tasks_all s state [] [] = sym (append-nil state.tasks)
tasks_all s state [] (r ∷ rs) = sym (append-nil state.tasks)
tasks_all s state (st ∷ ss) [] = sym (append-nil state.tasks)
tasks_all s state (st ∷ ss) (r ∷ rs) =
    tasks_all s (state_step s state st r) ss rs
    ∙ (ap (λ l. l ++ accepted_tasks s ss rs) (tasks_step s state st r) ∙ append_assoc state.tasks (tasks_by s st r) (accepted_tasks s ss rs))

pub handed_all : (s : ℕ) (state : SenderView) (ss : List Step) (rs : List Reply)
    → (state_all s state ss rs).handed ≡ state.handed + length (deliveries_to s ss rs)
handed_all s state [] [] = omega arith
handed_all s state [] (r ∷ rs) = omega arith
handed_all s state (st ∷ ss) [] = omega arith
handed_all s state (st ∷ ss) (r ∷ rs) =
    omega (arith, handed_all s (state_step s state st r) ss rs, handed_step s state st r, length-append (deliveries_by s st r) (deliveries_to s ss rs))

drained_if : (state : SenderView) (b e : Bool) → handed.Drained ≡ cond (b && e) handed.Drained handed.Waiting → (b ≡ true) × (e ≡ true)
drained_if state true true h = (refl, refl)
drained_if state true false h = cc
drained_if state false e h = cc

pub drained_stage : (state : SenderView) (o : Option Stage) → handed.Drained ≡ deliver_reply_at state o
    → (state.closed ≡ true) × ((state.handed == length state.tasks) ≡ true)
drained_stage state None e = drained_if state state.closed (state.handed == length state.tasks) e
drained_stage state (Some Waiting) e = drained_if state state.closed (state.handed == length state.tasks) e
drained_stage state (Some Taken) e = drained_if state state.closed (state.handed == length state.tasks) e
drained_stage state (Some (Finished a)) e = cc

-- where a sender is drained, as many answers were delivered as tasks were accepted
pub drained_all : (n s : ℕ) (ss : List Step) (rs : List Reply) → s < n
    → handed.Drained ≡ deliver_reply (after_all (empty_content n) ss rs) s → length (deliveries_to s ss rs) ≡ length (accepted_tasks s ss rs)
drained_all n s ss rs lt e =
    let state : SenderView = state_all s empty_state ss rs in
    let at : slice_get (after_all (empty_content n) ss rs) s ≡ Some state =
    state_after_all (empty_content n) s empty_state ss rs (slice_get-replicate n s empty_state lt) in
    let facts = drained_stage state (slice_get state.stages state.handed) (e ∙ ap deliver_reply_in at) in
    omega (arith, eqb-true state.handed (length state.tasks) facts.1, handed_all s empty_state ss rs, ap length (tasks_all s empty_state ss rs))

closed_refuses : (state : SenderView) (n : ℕ) (b full : Bool) → b ≡ true
    → SubmitAs (cond b (Some fault.Closed) (cond full (Some fault.Full) None)) (length state.tasks) (Ok n) → ⊥
closed_refuses state n true full e h = cc
closed_refuses state n false full e h = false≢true e

none_if : (b : Bool) (t : TaskView) → b ≡ false → cond b (t ∷ []) [] ≡ []
none_if b t e = ap (λ x. cond x (t ∷ []) []) e

still : (s' s : ℕ) (state new : SenderView) → state.closed ≡ true → new.closed ≡ state.closed → (cond (s' == s) new state).closed ≡ true
still s' s state new e same = cond_same (λ l. l.closed) (s' == s) new state same ∙ e

-- a lawful step accepts no task of a closed sender, and leaves the sender closed
closed_step : (c : BoardView) (s : ℕ) (state : SenderView) (st : Step) (r : Reply) → slice_get c s ≡ Some state → state.closed ≡ true → IsLawful c st r
    → (tasks_by s st r ≡ []) × ((state_step s state st r).closed ≡ true)
closed_step c s state (step.Submit s' t) (reply.Submitted (Ok n)) at e law = (
  elim (cases_eq s' s) [
    | inl is ↦
        let P : Option SenderView → Type 0 = λ o. SubmitAs (submit_refusal o) (task_count o) (Ok n) in
        absurd (closed_refuses state n state.closed (ltb 65534 (length state.tasks)) e (subst P (ap (slice_get c) is ∙ at) law))
    | inr ne ↦ none_if (s' == s) t (ne_eqb s' s ne)
  ],
  still s' s state (with_task t state) e refl,
)
closed_step c s state step.Take (reply.Took (Some job)) at e law = (refl, still job.id.sender s state (with_stage job.id.number Taken state) e refl)
closed_step c s state (step.Finish id a) (reply.Finished (Ok u)) at e law = (refl, still id.sender s state (with_stage id.number (Finished a) state) e refl)
closed_step c s state (step.GiveBack id) (reply.GaveBack (Ok u)) at e law = (refl, still id.sender s state (with_stage id.number Waiting state) e refl)
closed_step c s state (step.Deliver s') (reply.Handed (handed.Next d)) at e law = (refl, still s' s state (with_one_handed state) e refl)
closed_step c s state (step.Close s') (reply.Closed r) at e law = (refl, still s' s state (closed_state state) e (sym e))
closed_step c s state _ _ at e law = (refl, e)

-- no task of a closed sender is accepted
pub accepted_closed : (c : BoardView) (s : ℕ) (state : SenderView) (ss : List Step) (rs : List Reply)
    → slice_get c s ≡ Some state → state.closed ≡ true → AreLawful c ss rs → accepted_tasks s ss rs ≡ []
accepted_closed c s state [] [] at e law = refl
accepted_closed c s state [] (r ∷ rs) at e law = refl
accepted_closed c s state (st ∷ ss) [] at e law = refl
accepted_closed c s state (st ∷ ss) (r ∷ rs) at e law =
    let one = closed_step c s state st r at e law.0 in
    ap (λ l. l ++ accepted_tasks s ss rs) one.0 ∙ accepted_closed (after c st r) s (state_step s state st r) ss rs (state_after c s state st r at) one.1 law.1
