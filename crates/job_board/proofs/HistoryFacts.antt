-- The view of a board after a history is what the history says of each sender and job.
use Rattle.std.proofs.Common.{◌≡◌, ℕ, suc, zero, ◌<◌, ◌==◌, ◌&&◌, ◌||◌, Bool, true, false, List, [], ◌∷◌, ◌++◌, length}
use Rattle.std.proofs.Common.{set, Option, Some, None, Result, Ok, Err, slice_get, cond, refl, sym, ap, ◌∙◌, subst}
use Rattle.std.proofs.Common.{arith, inl, inr, length-append, length-set, not}
use Rattle.std.proofs.lemmas.Option.{slice_get_within, slice_get_past, same_Some}
use Rattle.std.proofs.lemmas.List.{length-replicate}
use Rattle.std.proofs.lemmas.Bool.{cases_eq, eq-eqb, ne_eqb, eqb-true}
use Rattle.endgame_search.specs.Task.{TaskView}
use Rattle.job_board.specs.declared.jobs.JobId.{JobId}
use Rattle.job_board.specs.declared.jobs.Delivery.{Delivery}
use Rattle.job_board.specs.declared.jobs.Stage.{Stage}
use Rattle.job_board.specs.declared.jobs.Stage.TheVariants.{Waiting, Taken, Finished}
use Rattle.job_board.specs.declared.jobs.Handed.TheVariants as handed
use Rattle.job_board.specs.declared.faults.NoSender.{NoSender}
use Rattle.job_board.specs.declared.steps.Step.{Step}
use Rattle.job_board.specs.declared.steps.Step.TheVariants as step
use Rattle.job_board.specs.declared.steps.Reply.{Reply}
use Rattle.job_board.specs.declared.steps.Reply.TheVariants as reply
use Rattle.job_board.specs.Senders.{SenderView, BoardView, content_by, with_task, with_stage, with_one_handed}
use Rattle.job_board.specs.Senders.{closed_state, stage_of_job, empty_state, empty_content}
use Rattle.job_board.specs.Boards.{IsSender, IsBoardView}
use Rattle.job_board.specs.Replies.{deliver_reply_in, deliver_reply, close_reply_in, give_back_reply_at}
use Rattle.job_board.specs.Steps.{IsLawful, after, AreLawful, after_all}
use Rattle.job_board.specs.Queues.{is_id_of}
use Rattle.job_board.specs.Histories.{accepted_tasks, deliveries_to, is_closed_by, is_closed, stage_by, stage_after, IsStateOf, InOrder}
use Rattle.job_board.proofs.BoardFacts.{slice_get-set_same, slice_get-set_other, finish_ok, finish_from, give_back_ok}
use Rattle.job_board.proofs.StateSteps.{state_step, state_after, state_kept, cond_same, slice_get-replicate, empty_is_state}
use Rattle.job_board.proofs.Deliveries.{state_all, state_after_all, tasks_all, handed_all, rest_in_order, accepted_closed, drained_stage}

put_length : (c : BoardView) (s : ℕ) (f : SenderView → SenderView) (o : Option SenderView) → length (content_by c s f o) ≡ length c
put_length c s f None = refl
put_length c s f (Some state) = length-set c s (f state)

length_after : (c : BoardView) (st : Step) (r : Reply) → length (after c st r) ≡ length c
length_after c (step.Submit s t) (reply.Submitted (Ok n)) = put_length c s (with_task t) (slice_get c s)
length_after c step.Take (reply.Took (Some job)) = put_length c job.id.sender (with_stage job.id.number Taken) (slice_get c job.id.sender)
length_after c (step.Finish id a) (reply.Finished (Ok u)) = put_length c id.sender (with_stage id.number (Finished a)) (slice_get c id.sender)
length_after c (step.GiveBack id) (reply.GaveBack (Ok u)) = put_length c id.sender (with_stage id.number Waiting) (slice_get c id.sender)
length_after c (step.Deliver s) (reply.Handed (handed.Next d)) = put_length c s with_one_handed (slice_get c s)
length_after c (step.Close s) (reply.Closed r) = put_length c s closed_state (slice_get c s)
length_after c _ _ = refl

length_all : (c : BoardView) (ss : List Step) (rs : List Reply) → length (after_all c ss rs) ≡ length c
length_all c [] [] = refl
length_all c [] (r ∷ rs) = refl
length_all c (st ∷ ss) [] = refl
length_all c (st ∷ ss) (r ∷ rs) = length_all (after c st r) ss rs ∙ length_after c st r

-- the number of senders stays
pub senders_all : (n : ℕ) (ss : List Step) (rs : List Reply) → length (after_all (empty_content n) ss rs) ≡ n
senders_all n ss rs = length_all (empty_content n) ss rs ∙ length-replicate n empty_state

kept_all : (c : BoardView) (s : ℕ) (state : SenderView) (ss : List Step) (rs : List Reply) → slice_get c s ≡ Some state
    → IsSender state → AreLawful c ss rs → IsSender (state_all s state ss rs)
kept_all c s state [] [] at h law = h
kept_all c s state [] (r ∷ rs) at h law = h
kept_all c s state (st ∷ ss) [] at h law = h
kept_all c s state (st ∷ ss) (r ∷ rs) at h law =
    kept_all (after c st r) s (state_step s state st r) ss rs (state_after c s state st r at) (state_kept c s state st r at h law.0) law.1

or-true : (b : Bool) → (b || true) ≡ true
or-true true = refl
or-true false = refl

or-false : (b : Bool) → (b || false) ≡ b
or-false true = refl
or-false false = refl

or-assoc : (x y z : Bool) → ((x || y) || z) ≡ (x || (y || z))
or-assoc true y z = refl
or-assoc false y z = refl

closes_if : (b : Bool) (state : SenderView) → (cond b (closed_state state) state).closed ≡ (state.closed || b)
closes_if true state = sym (or-true state.closed)
closes_if false state = sym (or-false state.closed)

was_closed : (b : Bool) (r : Result Bool NoSender) → r ≡ Ok false → r ≡ Ok (not b) → b ≡ true
was_closed true r is e = refl
was_closed false r is e = cc

-- after a lawful step a sender is closed exactly where it was before or the step closes it
closed_next : (c : BoardView) (s : ℕ) (state : SenderView) (st : Step) (r : Reply) → slice_get c s ≡ Some state
    → IsLawful c st r → (state_step s state st r).closed ≡ (state.closed || is_closed_by s st r)
closed_next c s state (step.Submit s' t) (reply.Submitted (Ok n)) at law =
    cond_same (λ l. l.closed) (s' == s) (with_task t state) state refl ∙ sym (or-false state.closed)
closed_next c s state step.Take (reply.Took (Some job)) at law =
    cond_same (λ l. l.closed) (job.id.sender == s) (with_stage job.id.number Taken state) state refl ∙ sym (or-false state.closed)
closed_next c s state (step.Finish id a) (reply.Finished (Ok u)) at law =
    cond_same (λ l. l.closed) (id.sender == s) (with_stage id.number (Finished a) state) state refl ∙ sym (or-false state.closed)
closed_next c s state (step.GiveBack id) (reply.GaveBack (Ok u)) at law =
    cond_same (λ l. l.closed) (id.sender == s) (with_stage id.number Waiting state) state refl ∙ sym (or-false state.closed)
closed_next c s state (step.Deliver s') (reply.Handed (handed.Next d)) at law =
    cond_same (λ l. l.closed) (s' == s) (with_one_handed state) state refl ∙ sym (or-false state.closed)
closed_next c s state (step.Close s') (reply.Closed (Ok true)) at law = closes_if (s' == s) state
closed_next c s state (step.Close s') (reply.Closed (Ok false)) at law =
    elim (cases_eq s' s) [
      | inl e ↦
          let was : state.closed ≡ true = was_closed state.closed (Ok false) refl (law ∙ ap close_reply_in (ap (slice_get c) e ∙ at)) in
          cond_same (λ l. l.closed) (s' == s) (closed_state state) state (sym was) ∙ sym (or-false state.closed)
      | inr ne ↦ ap (λ b. (cond b (closed_state state) state).closed) (ne_eqb s' s ne) ∙ sym (or-false state.closed)
    ]
closed_next c s state (step.Close s') (reply.Closed (Err e)) at law =
    elim (cases_eq s' s) [
      | inl same ↦ let no : Err e ≡ Ok (not state.closed) = law ∙ ap close_reply_in (ap (slice_get c) same ∙ at) in cc
      | inr ne ↦ ap (λ b. (cond b (closed_state state) state).closed) (ne_eqb s' s ne) ∙ sym (or-false state.closed)
    ]
closed_next c s state _ _ at law = sym (or-false state.closed)

closed_all : (c : BoardView) (s : ℕ) (state : SenderView) (ss : List Step) (rs : List Reply)
    → slice_get c s ≡ Some state → AreLawful c ss rs → (state_all s state ss rs).closed ≡ (state.closed || is_closed s ss rs)
closed_all c s state [] [] at law = sym (or-false state.closed)
closed_all c s state [] (r ∷ rs) at law = absurd law
closed_all c s state (st ∷ ss) [] at law = absurd law
closed_all c s state (st ∷ ss) (r ∷ rs) at law =
    closed_all (after c st r) s (state_step s state st r) ss rs (state_after c s state st r at) law.1
    ∙ (ap (λ b. b || is_closed s ss rs) (closed_next c s state st r at law.0) ∙ or-assoc state.closed (is_closed_by s st r) (is_closed s ss rs))

-- a job's stage; `Waiting` for a job that is not yet accepted
abbrev or_waiting : Option Stage → Stage
or_waiting None = Waiting
or_waiting (Some stage) = stage

push_waiting : (stages : List Stage) (k : ℕ) → or_waiting (slice_get (stages ++ Waiting ∷ []) k) ≡ or_waiting (slice_get stages k)
push_waiting [] zero = refl
push_waiting [] (suc k) = refl
push_waiting (x ∷ stages) zero = refl
push_waiting (x ∷ stages) (suc k) = push_waiting stages k

push_if : (b : Bool) (t : TaskView) (state : SenderView) (k : ℕ)
    → or_waiting (slice_get (cond b (with_task t state) state).stages k) ≡ or_waiting (slice_get state.stages k)
push_if true t state k = push_waiting state.stages k
push_if false t state k = refl

restaged_if : (id : JobId) (s k : ℕ) (new : Stage) (state : SenderView) → (id.sender ≡ s → id.number < length state.stages)
    → or_waiting (slice_get (cond (id.sender == s) (with_stage id.number new state) state).stages k)
    ≡ cond (is_id_of s k id) new (or_waiting (slice_get state.stages k))
restaged_if id s k new state within =
    elim (cases_eq id.sender s) [
      | inl e ↦
          let here : (id.sender == s) ≡ true = eq-eqb id.sender s e in
          ap (λ b. or_waiting (slice_get (cond b (with_stage id.number new state) state).stages k)) here
          ∙ (elim (cases_eq id.number k) [
            | inl same ↦
                ap (λ n. or_waiting (slice_get (set state.stages id.number new) n)) (sym same)
                ∙ (ap or_waiting (slice_get-set_same state.stages id.number new (within e))
                ∙ sym (ap (λ b. cond (b && (id.number == k)) new (or_waiting (slice_get state.stages k))) here
                ∙ ap (λ b. cond b new (or_waiting (slice_get state.stages k))) (eq-eqb id.number k same)))
            | inr ne ↦
                ap or_waiting (slice_get-set_other state.stages id.number k new (λ x. ne (sym x)))
                ∙ sym (ap (λ b. cond (b && (id.number == k)) new (or_waiting (slice_get state.stages k))) here
                ∙ ap (λ b. cond b new (or_waiting (slice_get state.stages k))) (ne_eqb id.number k ne))
          ])
      | inr ne ↦
          let there : (id.sender == s) ≡ false = ne_eqb id.sender s ne in
          ap (λ b. or_waiting (slice_get (cond b (with_stage id.number new state) state).stages k)) there
          ∙ sym (ap (λ b. cond (b && (id.number == k)) new (or_waiting (slice_get state.stages k))) there)
    ]

-- the stage to which a lawful step brings a job
stage_next : (c : BoardView) (s k : ℕ) (state : SenderView) (st : Step) (r : Reply) → slice_get c s ≡ Some state → IsLawful c st r
    → or_waiting (slice_get (state_step s state st r).stages k) ≡ stage_by s k (or_waiting (slice_get state.stages k)) st r
stage_next c s k state (step.Submit s' t) (reply.Submitted (Ok n)) at law = push_if (s' == s) t state k
stage_next c s k state step.Take (reply.Took (Some job)) at law =
    restaged_if job.id s k Taken state
    (λ e. slice_get_within state.stages job.id.number Waiting (sym (ap (stage_of_job job.id.number) (ap (slice_get c) e ∙ at)) ∙ law.0))
stage_next c s k state (step.Finish id a) (reply.Finished (Ok u)) at law =
    restaged_if id s k (Finished a) state
    (λ e. slice_get_within state.stages id.number Taken
    (finish_ok (slice_get state.stages id.number) (slice_get state.tasks id.number) a u (finish_from c id a (Ok u) state (ap (slice_get c) e ∙ at) law)).0)
stage_next c s k state (step.GiveBack id) (reply.GaveBack (Ok u)) at law =
    restaged_if id s k Waiting state
    (λ e. slice_get_within state.stages id.number Taken
    (give_back_ok (slice_get state.stages id.number) u (law ∙ ap (λ o. give_back_reply_at (stage_of_job id.number o)) (ap (slice_get c) e ∙ at))))
stage_next c s k state (step.Deliver s') (reply.Handed (handed.Next d)) at law =
    cond_same (λ l. or_waiting (slice_get l.stages k)) (s' == s) (with_one_handed state) state refl
stage_next c s k state (step.Close s') (reply.Closed r) at law = cond_same (λ l. or_waiting (slice_get l.stages k)) (s' == s) (closed_state state) state refl
stage_next c s k state _ _ at law = refl

stages_all : (c : BoardView) (s k : ℕ) (state : SenderView) (ss : List Step) (rs : List Reply) → slice_get c s ≡ Some state → AreLawful c ss rs
    → or_waiting (slice_get (state_all s state ss rs).stages k) ≡ stage_after s k (or_waiting (slice_get state.stages k)) ss rs
stages_all c s k state [] [] at law = refl
stages_all c s k state [] (r ∷ rs) at law = absurd law
stages_all c s k state (st ∷ ss) [] at law = absurd law
stages_all c s k state (st ∷ ss) (r ∷ rs) at law =
    stages_all (after c st r) s k (state_step s state st r) ss rs (state_after c s state st r at) law.1
    ∙ ap (λ stage. stage_after s k stage ss rs) (stage_next c s k state st r at law.0)

some_stage : (stages : List Stage) (k : ℕ) → k < length stages → slice_get stages k ≡ Some (or_waiting (slice_get stages k))
some_stage [] k lt = absurd (omega arith)
some_stage (x ∷ stages) zero lt = refl
some_stage (x ∷ stages) (suc k) lt = some_stage stages k (omega arith)

state_of_all : (s : ℕ) (c : BoardView) (ss : List Step) (rs : List Reply) → slice_get c s ≡ Some empty_state
    → AreLawful c ss rs → IsStateOf s ss rs (state_all s empty_state ss rs)
state_of_all s c ss rs at law =
    let state : SenderView = state_all s empty_state ss rs in
    let h : IsSender state = kept_all c s empty_state ss rs at empty_is_state law in
    let tasks : state.tasks ≡ accepted_tasks s ss rs = tasks_all s empty_state ss rs in
    record {
      tasks = tasks;
      each_staged = omega (arith, h.stages, ap length tasks);
      stages = λ k lt. some_stage state.stages k (omega (arith, h.stages, ap length tasks)) ∙ ap Some (stages_all c s k empty_state ss rs at law);
      handed = handed_all s empty_state ss rs ∙ omega arith;
      closed = closed_all c s empty_state ss rs at law;
    }

-- the view of a sender after a history is what the history says
pub content_of : (n s : ℕ) (ss : List Step) (rs : List Reply) (state : SenderView) → AreLawful (empty_content n) ss rs
    → slice_get (after_all (empty_content n) ss rs) s ≡ Some state → IsStateOf s ss rs state
content_of n s ss rs state law at =
    let lt : s < n = omega (arith, slice_get_within (after_all (empty_content n) ss rs) s state at, senders_all n ss rs) in
    let first : slice_get (empty_content n) s ≡ Some empty_state = slice_get-replicate n s empty_state lt in
    let P : SenderView → Type 0 = IsStateOf s ss rs in
    subst P (same_Some (state_all s empty_state ss rs) state (sym (state_after_all (empty_content n) s empty_state ss rs first) ∙ at))
    (state_of_all s (empty_content n) ss rs first law)

-- a lawful history leaves a view that a board may have
pub content_kept : (n : ℕ) (ss : List Step) (rs : List Reply) → AreLawful (empty_content n) ss rs → IsBoardView (after_all (empty_content n) ss rs)
content_kept n ss rs law s state at =
    let lt : s < n = omega (arith, slice_get_within (after_all (empty_content n) ss rs) s state at, senders_all n ss rs) in
    let first : slice_get (empty_content n) s ≡ Some empty_state = slice_get-replicate n s empty_state lt in
    let P : SenderView → Type 0 = IsSender in
    subst P (same_Some (state_all s empty_state ss rs) state (sym (state_after_all (empty_content n) s empty_state ss rs first) ∙ at))
    (kept_all (empty_content n) s empty_state ss rs first empty_is_state law)

no_more : (tasks more : List TaskView) (ds : List Delivery) → more ≡ [] → InOrder (tasks ++ more) (length tasks) ds → ds ≡ []
no_more tasks more [] e h = refl
no_more tasks more (d ∷ ds) e h =
    let past : slice_get (tasks ++ more) (length tasks) ≡ None =
    slice_get_past (tasks ++ more) (length tasks) (omega (arith, length-append tasks more, ap length e)) in
    let no : Some d.solved ≡ None = sym h.1 ∙ past in
    cc

-- the view of sender s after a history of n senders, where s < n
state_there : (n s : ℕ) (ss : List Step) (rs : List Reply) → s < n → slice_get (after_all (empty_content n) ss rs) s ≡ Some (state_all s empty_state ss rs)
state_there n s ss rs lt = state_after_all (empty_content n) s empty_state ss rs (slice_get-replicate n s empty_state lt)

-- a sender that is drained stays drained
pub drained_stays : (n s : ℕ) (ss ss' : List Step) (rs rs' : List Reply) → s < n → AreLawful (empty_content n) ss rs
    → handed.Drained ≡ deliver_reply (after_all (empty_content n) ss rs) s
    → AreLawful (after_all (empty_content n) ss rs) ss' rs' → (accepted_tasks s ss' rs' ≡ []) × (deliveries_to s ss' rs' ≡ [])
drained_stays n s ss ss' rs rs' lt law e more =
    let c : BoardView = after_all (empty_content n) ss rs in
    let state : SenderView = state_all s empty_state ss rs in
    let at : slice_get c s ≡ Some state = state_there n s ss rs lt in
    let h : IsSender state = kept_all (empty_content n) s empty_state ss rs (slice_get-replicate n s empty_state lt) empty_is_state law in
    let facts = drained_stage state (slice_get state.stages state.handed) (e ∙ ap deliver_reply_in at) in
    let none : accepted_tasks s ss' rs' ≡ [] = accepted_closed c s state ss' rs' at facts.0 more in
    let P : ℕ → Type 0 = λ first. InOrder (state.tasks ++ accepted_tasks s ss' rs') first (deliveries_to s ss' rs') in (
      none,
      no_more state.tasks (accepted_tasks s ss' rs') (deliveries_to s ss' rs') none
          (subst P (eqb-true state.handed (length state.tasks) facts.1) (rest_in_order c s state ss' rs' at h more)),
    )

-- no task of a sender is accepted after its close
pub closed_stays : (n s : ℕ) (ss ss' : List Step) (rs rs' : List Reply) → s < n → AreLawful (empty_content n) ss rs → is_closed s ss rs ≡ true
    → AreLawful (after_all (empty_content n) ss rs) ss' rs' → accepted_tasks s ss' rs' ≡ []
closed_stays n s ss ss' rs rs' lt law e more =
    let at = state_there n s ss rs lt in
    accepted_closed (after_all (empty_content n) ss rs) s (state_all s empty_state ss rs) ss' rs' at
    (closed_all (empty_content n) s empty_state ss rs (slice_get-replicate n s empty_state lt) law ∙ e) more
