-- The view of one sender after a step.
use Rattle.std.proofs.Common.{◌≡◌, ◌≢◌, ℕ, suc, zero, ◌+◌, ◌<◌, ◌==◌, Bool, true, false, [], ◌∷◌, ◌++◌, length, set}
use Rattle.std.proofs.Common.{Option, Some, None, Ok, slice_get, cond, ltb, refl, sym, ap, ◌∙◌, subst, arith, inl, inr}
use Rattle.std.proofs.Common.{append-nil, replicate}
use Rattle.std.proofs.lemmas.Option.{slice_get_within}
use Rattle.std.proofs.lemmas.Bool.{cases_eq, eq-eqb, ne_eqb, ltb-false}
use Rattle.endgame_search.specs.Task.{TaskView}
use Rattle.job_board.specs.declared.jobs.Delivery.{Delivery}
use Rattle.job_board.specs.declared.jobs.Stage.TheVariants.{Waiting, Taken, Finished}
use Rattle.job_board.specs.declared.jobs.Handed.TheVariants as handed
use Rattle.job_board.specs.declared.steps.Step.{Step}
use Rattle.job_board.specs.declared.steps.Step.TheVariants as step
use Rattle.job_board.specs.declared.steps.Reply.{Reply}
use Rattle.job_board.specs.declared.steps.Reply.TheVariants as reply
use Rattle.job_board.specs.declared.faults.SubmitFault.TheVariants as fault
use Rattle.job_board.specs.Senders.{SenderView, BoardView, content_with, content_by, with_task, with_stage}
use Rattle.job_board.specs.Senders.{with_one_handed, closed_state, stage_of_job, empty_state}
use Rattle.job_board.specs.Boards.{IsSender}
use Rattle.job_board.specs.Replies.{SubmitAs, submit_refusal, task_count, deliver_reply_in, give_back_reply_at}
use Rattle.job_board.specs.Steps.{IsLawful, after}
use Rattle.job_board.specs.Histories.{tasks_by, deliveries_by}
use Rattle.job_board.proofs.BoardFacts.{slice_get-set_same, slice_get-set_other, change_at, state_restaged}
use Rattle.job_board.proofs.BoardFacts.{state_with_task, state_handed, finish_ok, finish_from, give_back_ok}
use Rattle.job_board.proofs.BoardFacts.{same_finished}

-- the view of sender s after a step
abbrev pub state_step : ℕ → SenderView → Step → Reply → SenderView
state_step s state (step.Submit s' t) (reply.Submitted (Ok n)) = cond (s' == s) (with_task t state) state
state_step s state step.Take (reply.Took (Some job)) = cond (job.id.sender == s) (with_stage job.id.number Taken state) state
state_step s state (step.Finish id a) (reply.Finished (Ok u)) = cond (id.sender == s) (with_stage id.number (Finished a) state) state
state_step s state (step.GiveBack id) (reply.GaveBack (Ok u)) = cond (id.sender == s) (with_stage id.number Waiting state) state
state_step s state (step.Deliver s') (reply.Handed (handed.Next d)) = cond (s' == s) (with_one_handed state) state
state_step s state (step.Close s') (reply.Closed r) = cond (s' == s) (closed_state state) state
state_step s state _ _ = state

change_other : (c : BoardView) (s' s : ℕ) (f : SenderView → SenderView) (o : Option SenderView) → slice_get c s' ≡ o
    → s ≢ s' → slice_get (content_by c s' f o) s ≡ slice_get c s
change_other c s' s f None e ne = refl
change_other c s' s f (Some state) e ne = slice_get-set_other c s' s (f state) ne

pub change_state : (c : BoardView) (s' s : ℕ) (f : SenderView → SenderView) (state : SenderView)
    → slice_get c s ≡ Some state → slice_get (content_with c s' f) s ≡ Some (cond (s' == s) (f state) state)
change_state c s' s f state at =
    elim (cases_eq s' s) [
      | inl e ↦
          let at' : slice_get c s' ≡ Some state = ap (slice_get c) e ∙ at in
          ap (λ l. slice_get l s) (change_at c s' state f at')
          ∙ (ap (slice_get (set c s' (f state))) (sym e)
          ∙ (slice_get-set_same c s' (f state) (slice_get_within c s' state at') ∙ ap (λ b. Some (cond b (f state) state)) (sym (eq-eqb s' s e))))
      | inr ne ↦ change_other c s' s f (slice_get c s') refl (λ e. ne (sym e)) ∙ (at ∙ ap (λ b. Some (cond b (f state) state)) (sym (ne_eqb s' s ne)))
    ]

pub state_after : (c : BoardView) (s : ℕ) (state : SenderView) (st : Step) (r : Reply) → slice_get c s ≡ Some state
    → slice_get (after c st r) s ≡ Some (state_step s state st r)
state_after c s state (step.Submit s' t) (reply.Submitted (Ok n)) at = change_state c s' s (with_task t) state at
state_after c s state step.Take (reply.Took (Some job)) at = change_state c job.id.sender s (with_stage job.id.number Taken) state at
state_after c s state (step.Finish id a) (reply.Finished (Ok u)) at = change_state c id.sender s (with_stage id.number (Finished a)) state at
state_after c s state (step.GiveBack id) (reply.GaveBack (Ok u)) at = change_state c id.sender s (with_stage id.number Waiting) state at
state_after c s state (step.Deliver s') (reply.Handed (handed.Next d)) at = change_state c s' s with_one_handed state at
state_after c s state (step.Close s') (reply.Closed r) at = change_state c s' s closed_state state at
state_after c s state _ _ at = at

-- the facts of a sender hold of its view after a step, whether or not the step is of this sender
sender_kept : (s' s : ℕ) (state new : SenderView) → IsSender state → (s' ≡ s → IsSender new) → IsSender (cond (s' == s) new state)
sender_kept s' s state new h here =
    let P : SenderView → Type 0 = IsSender in
    elim (cases_eq s' s) [
      | inl e ↦ subst P (ap (λ b. cond b new state) (sym (eq-eqb s' s e))) (here e)
      | inr ne ↦ subst P (ap (λ b. cond b new state) (sym (ne_eqb s' s ne))) h
    ]

submit_room : (state : SenderView) (n : ℕ) (b full : Bool) → full ≡ ltb 65534 (length state.tasks)
    → SubmitAs (cond b (Some fault.Closed) (cond full (Some fault.Full) None)) (length state.tasks) (Ok n) → length state.tasks < 65535
submit_room state n true full e h = cc
submit_room state n false true e h = cc
submit_room state n false false e h = omega (arith, ltb-false 65534 (length state.tasks) (sym e))

submit_few : (state : SenderView) (n : ℕ) → (c : BoardView) (s : ℕ) (t : TaskView) → slice_get c s ≡ Some state
    → IsLawful c (step.Submit s t) (reply.Submitted (Ok n)) → length state.tasks < 65535
submit_few state n c s t at h =
    let P : Option SenderView → Type 0 = λ o. SubmitAs (submit_refusal o) (task_count o) (Ok n) in
    submit_room state n state.closed (ltb 65534 (length state.tasks)) refl (subst P at h)

-- a lawful step keeps the facts of a sender
pub state_kept : (c : BoardView) (s : ℕ) (state : SenderView) (st : Step) (r : Reply) → slice_get c s ≡ Some state
    → IsSender state → IsLawful c st r → IsSender (state_step s state st r)
state_kept c s state (step.Submit s' t) (reply.Submitted (Ok n)) at h law =
    sender_kept s' s state (with_task t state) h (λ e. state_with_task state t h (submit_few state n c s' t (ap (slice_get c) e ∙ at) law))
state_kept c s state step.Take (reply.Took (Some job)) at h law =
    sender_kept job.id.sender s state (with_stage job.id.number Taken state) h
    (λ e. state_restaged state job.id.number Waiting Taken h (sym (ap (stage_of_job job.id.number) (ap (slice_get c) e ∙ at)) ∙ law.0) refl (λ a e. cc))
state_kept c s state (step.Finish id a) (reply.Finished (Ok u)) at h law =
    sender_kept id.sender s state (with_stage id.number (Finished a) state) h
    (λ e.
    let ok =
    finish_ok (slice_get state.stages id.number) (slice_get state.tasks id.number) a u (finish_from c id a (Ok u) state (ap (slice_get c) e ∙ at) law) in
    state_restaged state id.number Taken (Finished a) h ok.0 refl (λ a' e'. ok.1 ∙ ap Some (same_finished a a' e')))
state_kept c s state (step.GiveBack id) (reply.GaveBack (Ok u)) at h law =
    sender_kept id.sender s state (with_stage id.number Waiting state) h
    (λ e. state_restaged state id.number Taken Waiting h
    (give_back_ok (slice_get state.stages id.number) u (law ∙ ap (λ o. give_back_reply_at (stage_of_job id.number o)) (ap (slice_get c) e ∙ at))) refl
    (λ a e. cc))
state_kept c s state (step.Deliver s') (reply.Handed (handed.Next d)) at h law =
    sender_kept s' s state (with_one_handed state) h
    (λ e. state_handed state d h (law ∙ ap deliver_reply_in (ap (slice_get c) e ∙ at)))
state_kept c s state (step.Close s') (reply.Closed r) at h law =
    sender_kept s' s state (closed_state state) h
    (λ e. record { stages = h.stages; most = h.most; handed = h.handed; finished = h.finished; solved = h.solved })
state_kept c s state _ _ at h law = h

pub cond_same : {A : Type 0} (f : SenderView → A) (b : Bool) (x y : SenderView) → f x ≡ f y → f (cond b x y) ≡ f y
cond_same f true x y e = e
cond_same f false x y e = refl

tasks_if : (b : Bool) (state : SenderView) (t : TaskView) → (cond b (with_task t state) state).tasks ≡ state.tasks ++ cond b (t ∷ []) []
tasks_if true state t = refl
tasks_if false state t = sym (append-nil state.tasks)

handed_if : (b : Bool) (state : SenderView) (d : Delivery) → (cond b (with_one_handed state) state).handed ≡ state.handed + length (cond b (d ∷ []) [])
handed_if true state d = omega arith
handed_if false state d = omega arith

pub slice_get-replicate : {X : Type 0} (n s : ℕ) (x : X) → s < n → slice_get (replicate n x) s ≡ Some x
slice_get-replicate zero s x lt = absurd (omega arith)
slice_get-replicate (suc n) zero x lt = refl
slice_get-replicate (suc n) (suc s) x lt = slice_get-replicate n s x (omega arith)

pub empty_is_state : IsSender empty_state
empty_is_state = record { stages = refl; most = omega arith; handed = omega arith; finished = λ k lt. absurd (omega arith); solved = λ k a e. cc }

-- what a step adds to the tasks of a sender
pub tasks_step : (s : ℕ) (state : SenderView) (st : Step) (r : Reply) → (state_step s state st r).tasks ≡ state.tasks ++ tasks_by s st r
tasks_step s state (step.Submit s' t) (reply.Submitted (Ok n)) = tasks_if (s' == s) state t
tasks_step s state step.Take (reply.Took (Some job)) =
    cond_same (λ l. l.tasks) (job.id.sender == s) (with_stage job.id.number Taken state) state refl ∙ sym (append-nil state.tasks)
tasks_step s state (step.Finish id a) (reply.Finished (Ok u)) =
    cond_same (λ l. l.tasks) (id.sender == s) (with_stage id.number (Finished a) state) state refl ∙ sym (append-nil state.tasks)
tasks_step s state (step.GiveBack id) (reply.GaveBack (Ok u)) =
    cond_same (λ l. l.tasks) (id.sender == s) (with_stage id.number Waiting state) state refl ∙ sym (append-nil state.tasks)
tasks_step s state (step.Deliver s') (reply.Handed (handed.Next d)) =
    cond_same (λ l. l.tasks) (s' == s) (with_one_handed state) state refl ∙ sym (append-nil state.tasks)
tasks_step s state (step.Close s') (reply.Closed r) = cond_same (λ l. l.tasks) (s' == s) (closed_state state) state refl ∙ sym (append-nil state.tasks)
tasks_step s state _ _ = sym (append-nil state.tasks)

-- what a step adds to the number of delivered answers of a sender
pub handed_step : (s : ℕ) (state : SenderView) (st : Step) (r : Reply) → (state_step s state st r).handed ≡ state.handed + length (deliveries_by s st r)
handed_step s state (step.Submit s' t) (reply.Submitted (Ok n)) = cond_same (λ l. l.handed) (s' == s) (with_task t state) state refl ∙ omega arith
handed_step s state step.Take (reply.Took (Some job)) =
    cond_same (λ l. l.handed) (job.id.sender == s) (with_stage job.id.number Taken state) state refl ∙ omega arith
handed_step s state (step.Finish id a) (reply.Finished (Ok u)) =
    cond_same (λ l. l.handed) (id.sender == s) (with_stage id.number (Finished a) state) state refl ∙ omega arith
handed_step s state (step.GiveBack id) (reply.GaveBack (Ok u)) =
    cond_same (λ l. l.handed) (id.sender == s) (with_stage id.number Waiting state) state refl ∙ omega arith
handed_step s state (step.Deliver s') (reply.Handed (handed.Next d)) = handed_if (s' == s) state d
handed_step s state (step.Close s') (reply.Closed r) = cond_same (λ l. l.handed) (s' == s) (closed_state state) state refl ∙ omega arith
handed_step s state _ _ = omega arith
