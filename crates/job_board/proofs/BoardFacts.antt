-- Each step keeps the facts of a board.
use Rattle.std.proofs.Common.{◌≡◌, ◌≢◌, ℕ, suc, zero, ◌+◌, ◌*◌, ◌-◌, ◌<◌, ◌≤◌, ◌==◌, ◌&&◌, Bool, true, false, List, []}
use Rattle.std.proofs.Common.{◌∷◌, ◌++◌, length, set, get_or, Option, Some, None, Result, Ok, Err, slice_get, count_by}
use Rattle.std.proofs.Common.{cond, ltb, refl, sym, ap, ◌∙◌, subst, arith, inl, inr, ◌⊎◌, length-append, length-set}
use Rattle.std.proofs.Common.{All, replicate}
use Rattle.std.specs.List.Sorted.{IsPermutation}
use Rattle.std.proofs.lemmas.List.Sorted.{sum_by_pushed, sum_by_popped, length_permutation, IsPermutation-refl}
use Rattle.std.proofs.lemmas.Option.{slice_get_read, slice_get-get_or, slice_get_within, get_or_from_slice_get, slice_get_past, same_Some}
use Rattle.std.proofs.lemmas.List.{get_or-set_same, set-get_or, length-replicate}
use Rattle.std.proofs.lemmas.List.Sums.{sum_by-set, sum_by-cons, count_by-le-length}
use Rattle.std.proofs.lemmas.List.Folds.{sum_by-replicate}
use Rattle.std.proofs.lemmas.Bool.{cases_eq, false≢true, le-ltb, ltb-false}
use borrow.Author.Count.{below_more}
use Rattle.std.proofs.lemmas.Bool.Decides.{nat_tests}
use Rattle.std.proofs.lemmas.Grind.{common_steps}
use Rattle.endgame_search.specs.Task.{TaskView}
use Rattle.job_board.specs.declared.jobs.JobId.{JobId}
use Rattle.job_board.specs.declared.jobs.Stage.{Stage}
use Rattle.job_board.specs.declared.jobs.Stage.TheVariants.{Waiting, Taken, Finished}
use Rattle.job_board.specs.declared.jobs.Handed.{Handed}
use Rattle.job_board.specs.declared.jobs.Handed.TheVariants as handed
use Rattle.job_board.specs.declared.jobs.Delivery.{Delivery}
use Rattle.job_board.specs.declared.faults.SubmitFault.{SubmitFault}
use Rattle.job_board.specs.declared.faults.SubmitFault.TheVariants as fault
use Rattle.job_board.specs.declared.faults.JobFault.{JobFault}
use Rattle.job_board.specs.Queues.{is_id_of, id_count}
use Rattle.job_board.specs.Senders.{SenderView, BoardView, content_with, content_by, stage_of_job, stage_at}
use Rattle.job_board.specs.Senders.{task_of_job, is_waiting, is_taken, is_finished, with_stage, with_task}
use Rattle.job_board.specs.Senders.{with_one_handed, empty_state, empty_content}
use Rattle.job_board.specs.Boards.{IsSender, IsBoardView, bit, ListsWaiting, taken_in, taken_count, IsBoard, AllDone}
use Rattle.job_board.specs.Replies.{Submits, SubmitAs, submit_refusal, task_count, FinishAs, Finishes}
use Rattle.job_board.specs.Replies.{give_back_reply_at, deliver_reply_at, deliver_reply_of, state_after_handed}
use Rattle.job_board.specs.Replies.{after_deliver}

pub slice_get-set_same : {X : Type 0} (xs : List X) (i : ℕ) (y : X) → i < length xs → slice_get (set xs i y) i ≡ Some y
slice_get-set_same xs i y h =
    slice_get-get_or (set xs i y) i y (omega (arith, length-set xs i y)) ∙ ap Some (get_or-set_same xs i y y h)

pub slice_get-set_other : {X : Type 0} (xs : List X) (i j : ℕ) (y : X) → j ≢ i → slice_get (set xs i y) j ≡ slice_get xs j
slice_get-set_other [] i j y ne = refl
slice_get-set_other (x ∷ xs) zero zero y ne = absurd (ne refl)
slice_get-set_other (x ∷ xs) zero (suc j) y ne = refl
slice_get-set_other (x ∷ xs) (suc i) zero y ne = refl
slice_get-set_other (x ∷ xs) (suc i) (suc j) y ne = slice_get-set_other xs i j y (λ e. ne (ap suc e))

pub slice_get-push_same : {X : Type 0} (xs : List X) (y : X) (i : ℕ) → i ≡ length xs → slice_get (xs ++ y ∷ []) i ≡ Some y
slice_get-push_same [] y zero h = refl
slice_get-push_same [] y (suc i) h = absurd (omega arith)
slice_get-push_same (x ∷ xs) y zero h = absurd (omega arith)
slice_get-push_same (x ∷ xs) y (suc i) h = slice_get-push_same xs y i (omega arith)

pub slice_get-push_other : {X : Type 0} (xs : List X) (y : X) (i : ℕ) → i ≢ length xs → slice_get (xs ++ y ∷ []) i ≡ slice_get xs i
slice_get-push_other [] y zero ne = absurd (ne refl)
slice_get-push_other [] y (suc i) ne = refl
slice_get-push_other (x ∷ xs) y zero ne = refl
slice_get-push_other (x ∷ xs) y (suc i) ne = slice_get-push_other xs y i (λ e. ne (omega arith))

pub change_at : (c : BoardView) (s : ℕ) (state : SenderView) (f : SenderView → SenderView) → slice_get c s ≡ Some state → content_with c s f ≡ set c s (f state)
change_at c s state f h = ap (content_by c s f) h

pub id_count-pushed : (s k : ℕ) (id : JobId) (ids ids' : List JobId) → IsPermutation (id ∷ ids) ids'
    → id_count s k ids' ≡ bit (is_id_of s k id) + id_count s k ids
id_count-pushed s k id ids ids' h = sum_by_pushed (λ x. cond (is_id_of s k x) 1 0) id ids ids' h

pub id_count-popped : (s k : ℕ) (id : JobId) (ids ids' : List JobId) → IsPermutation ids (id ∷ ids')
    → id_count s k ids' + bit (is_id_of s k id) ≡ id_count s k ids
id_count-popped s k id ids ids' h = sum_by_popped (λ x. cond (is_id_of s k x) 1 0) id ids ids' h

-- a board keeps its facts where one sender's view is replaced by a view that has them
pub content_set : (c : BoardView) (s : ℕ) (state : SenderView) → s < length c → IsBoardView c → IsSender state → IsBoardView (set c s state)
content_set c s state h kept new s' state' at =
    elim (cases_eq s' s) [
      | inl e ↦
          let P : SenderView → Type 0 = IsSender in
          subst P (same_Some state state' (sym (slice_get-set_same c s state h) ∙ (ap (slice_get (set c s state)) (sym e) ∙ at))) new
      | inr ne ↦ kept s' state' (sym (slice_get-set_other c s s' state ne) ∙ at)
    ]

-- the list of waiting jobs and the view of one sender change together
pub lists_set : (c : BoardView) (s : ℕ) (state new : SenderView) (ids ids' : List JobId) → slice_get c s ≡ Some state
    → ListsWaiting ids c
    → ((k : ℕ) → id_count s k ids' + bit (is_waiting (slice_get state.stages k)) ≡ id_count s k ids + bit (is_waiting (slice_get new.stages k)))
    → ((s' k : ℕ) → s' ≢ s → id_count s' k ids' ≡ id_count s' k ids)
    → ListsWaiting ids' (set c s new)
lists_set c s state new ids ids' at kept here there s' k =
    elim (cases_eq s' s) [
      | inl e ↦
          let now : stage_at (set c s new) s' k ≡ slice_get new.stages k =
          ap (λ n. stage_at (set c s new) n k) e ∙ ap (stage_of_job k) (slice_get-set_same c s new (slice_get_within c s state at)) in
          let before : stage_at c s k ≡ slice_get state.stages k = ap (stage_of_job k) at in
          let old = kept s k in
          let step = here k in
          let same : id_count s' k ids' ≡ id_count s k ids' = ap (λ n. id_count n k ids') e in
          omega (arith, ap (λ o. bit (is_waiting o)) now, ap (λ o. bit (is_waiting o)) before, old, step, same)
      | inr ne ↦
          let now : stage_at (set c s new) s' k ≡ stage_at c s' k = ap (stage_of_job k) (slice_get-set_other c s s' new ne) in
          there s' k ne ∙ (kept s' k ∙ ap (λ o. bit (is_waiting o)) (sym now))
    ]

-- how the number of taken jobs changes with the view of one sender
pub taken-set : (c : BoardView) (s : ℕ) (state new : SenderView) → slice_get c s ≡ Some state
    → taken_count (set c s new) + taken_in state ≡ taken_count c + taken_in new
taken-set c s state new at =
    let e = sum_by-set taken_in c s new state (slice_get_within c s state at) in
    omega (arith, e, ap taken_in (get_or_from_slice_get c s state state at))

pub taken-stage : (stages : List Stage) (k : ℕ) (old new : Stage) → slice_get stages k ≡ Some old
    → count_by is_taken (set stages k new) + bit (is_taken old) ≡ count_by is_taken stages + bit (is_taken new)
taken-stage stages k old new at =
    let e = sum_by-set (λ x. cond (is_taken x) 1 0) stages k new old (slice_get_within stages k old at) in
    omega (arith, e, ap (λ x. bit (is_taken x)) (get_or_from_slice_get stages k old old at))

pub set_same : {X : Type 0} (xs : List X) (s : ℕ) (x : X) → slice_get xs s ≡ Some x → set xs s x ≡ xs
set_same xs s x at = ap (set xs s) (sym (get_or_from_slice_get xs s x x at)) ∙ set-get_or xs s x

pub bit_same : (id : JobId) → bit (is_id_of id.sender id.number id) ≡ 1
bit_same id = grind (arith, nat_tests)

pub bit_other : (id : JobId) (s k : ℕ) → (s ≢ id.sender) ⊎ (k ≢ id.number) → bit (is_id_of s k id) ≡ 0
bit_other id s k (inl ne) = grind (arith, nat_tests)
bit_other id s k (inr ne) = grind (arith, nat_tests)

-- the view of one sender changes, and none of its stages
pub keeps : (c : BoardView) (ids : List JobId) (taken room s : ℕ) (state new : SenderView) → IsBoard c ids taken room → slice_get c s ≡ Some state
    → new.stages ≡ state.stages → IsSender new → IsBoard (set c s new) ids taken room
keeps c ids taken room s state new b at same is_state = record {
  few = omega (arith, b.few, length-set c s new);
  content = content_set c s new (slice_get_within c s state at) b.content is_state;
  lists =
      lists_set c s state new ids ids at b.lists
      (λ k. ap (λ (l : List Stage). id_count s k ids + bit (is_waiting (slice_get l k))) (sym same)) (λ s' k ne. refl);
  counts = omega (arith, b.counts, taken-set c s state new at, ap (λ (l : List Stage). count_by is_taken l) same);
  has_room = b.has_room;
}

-- one stage changes, and the list of waiting jobs with it
pub lists_restaged : (c : BoardView) (s k : ℕ) (state : SenderView) (old new : Stage) (ids ids' : List JobId)
    → slice_get c s ≡ Some state → slice_get state.stages k ≡ Some old
    → ListsWaiting ids c
    → id_count s k ids' + bit (is_waiting (Some old)) ≡ id_count s k ids + bit (is_waiting (Some new))
    → ((s' k' : ℕ) → (s' ≢ s) ⊎ (k' ≢ k) → id_count s' k' ids' ≡ id_count s' k' ids)
    → ListsWaiting ids' (set c s (with_stage k new state))
lists_restaged c s k state old new ids ids' at was kept here there =
    lists_set c s state (with_stage k new state) ids ids' at kept
    (λ k'. elim (cases_eq k' k) [
      | inl e ↦
          let before : slice_get state.stages k' ≡ Some old = ap (slice_get state.stages) e ∙ was in
          let now : slice_get (set state.stages k new) k' ≡ Some new =
          ap (slice_get (set state.stages k new)) e ∙ slice_get-set_same state.stages k new (slice_get_within state.stages k old was) in
          omega (
            arith,
            here,
            ap (λ o. bit (is_waiting o)) before,
            ap (λ o. bit (is_waiting o)) now,
            ap (λ n. id_count s n ids) e,
            ap (λ n. id_count s n ids') e,
          )
      | inr ne ↦ omega (arith, there s k' (inr ne), ap (λ o. bit (is_waiting o)) (slice_get-set_other state.stages k k' new ne))
    ])
    (λ s' k' ne. there s' k' (inl ne))

pub state_restaged : (state : SenderView) (k : ℕ) (old new : Stage) → IsSender state → slice_get state.stages k ≡ Some old → is_finished (Some old) ≡ false
    → ((a : TaskView) → new ≡ Finished a → slice_get state.tasks k ≡ Some a) → IsSender (with_stage k new state)
state_restaged state k old new h was undone fits = record {
  stages = length-set state.stages k new ∙ h.stages;
  most = h.most;
  handed = h.handed;
  finished = λ k' lt. elim (cases_eq k' k) [
    | inl e ↦ absurd (false≢true (sym undone ∙ (ap is_finished (sym was) ∙ (ap (λ n. is_finished (slice_get state.stages n)) (sym e) ∙ h.finished k' lt))))
    | inr ne ↦ ap is_finished (slice_get-set_other state.stages k k' new ne) ∙ h.finished k' lt
  ];
  solved = λ k' a at. elim (cases_eq k' k) [
    | inl e ↦
        let now : Some new ≡ Some (Finished a) =
        sym (slice_get-set_same state.stages k new (slice_get_within state.stages k old was)) ∙ (ap (slice_get (set state.stages k new)) (sym e) ∙ at) in
        let P : Option TaskView → Type 0 = λ o. o ≡ Some a in
        subst P (ap (slice_get state.tasks) (sym e)) (fits a (same_Some new (Finished a) now))
    | inr ne ↦ h.solved k' a (sym (slice_get-set_other state.stages k k' new ne) ∙ at)
  ];
}

-- how the number of taken jobs changes with one stage
pub taken_restaged : (c : BoardView) (s k : ℕ) (state : SenderView) (old new : Stage) → slice_get c s ≡ Some state → slice_get state.stages k ≡ Some old
    → taken_count (set c s (with_stage k new state)) + bit (is_taken old) ≡ taken_count c + bit (is_taken new)
taken_restaged c s k state old new at was =
    omega (arith, taken-set c s state (with_stage k new state) at, taken-stage state.stages k old new was)

pub some_taken : (c : BoardView) (ids : List JobId) (taken room s k : ℕ) (state : SenderView) → IsBoard c ids taken room
    → slice_get c s ≡ Some state → slice_get state.stages k ≡ Some Taken → 1 ≤ taken
some_taken c ids taken room s k state b at was = omega (arith, b.counts, taken_restaged c s k state Taken Waiting at was)

pub takes : (c : BoardView) (id : JobId) (ids ids' : List JobId) (taken room : ℕ) (state : SenderView)
    → IsBoard c ids taken room → IsPermutation ids (id ∷ ids')
    → slice_get c id.sender ≡ Some state → slice_get state.stages id.number ≡ Some Waiting
    → IsBoard (set c id.sender (with_stage id.number Taken state)) ids' (taken + 1) room
takes c id ids ids' taken room state b moved at was = record {
  few = omega (arith, b.few, length-set c id.sender (with_stage id.number Taken state));
  content =
      content_set c id.sender (with_stage id.number Taken state) (slice_get_within c id.sender state at) b.content
      (state_restaged state id.number Waiting Taken (b.content id.sender state at) was refl (λ a e. cc));
  lists =
      lists_restaged c id.sender id.number state Waiting Taken ids ids' at was b.lists
      (omega (arith, bit_same id, id_count-popped id.sender id.number id ids ids' moved))
      (λ s k ne. omega (arith, bit_other id s k ne, id_count-popped s k id ids ids' moved));
  counts = omega (arith, b.counts, taken_restaged c id.sender id.number state Waiting Taken at was);
  has_room = omega (arith, b.has_room, length_permutation ids (id ∷ ids') moved);
}

pub gives_back : (c : BoardView) (id : JobId) (ids ids' : List JobId) (taken room room' : ℕ) (state : SenderView)
    → IsBoard c ids taken room → IsPermutation (id ∷ ids) ids' → room ≤ room'
    → slice_get c id.sender ≡ Some state → slice_get state.stages id.number ≡ Some Taken
    → IsBoard (set c id.sender (with_stage id.number Waiting state)) ids' (taken - 1) room'
gives_back c id ids ids' taken room room' state b moved more at was =
    let some = some_taken c ids taken room id.sender id.number state b at was in
    record {
      few = omega (arith, b.few, length-set c id.sender (with_stage id.number Waiting state));
      content =
          content_set c id.sender (with_stage id.number Waiting state) (slice_get_within c id.sender state at) b.content
          (state_restaged state id.number Taken Waiting (b.content id.sender state at) was refl (λ a e. cc));
      lists =
          lists_restaged c id.sender id.number state Taken Waiting ids ids' at was b.lists
          (omega (arith, bit_same id, id_count-pushed id.sender id.number id ids ids' moved))
          (λ s k ne. omega (arith, bit_other id s k ne, id_count-pushed s k id ids ids' moved));
      counts = omega (arith, b.counts, taken_restaged c id.sender id.number state Taken Waiting at was);
      has_room = omega (arith, b.has_room, some, more, length_permutation (id ∷ ids) ids' moved);
    }

pub same_finished : (a b : TaskView) → Finished a ≡ Finished b → a ≡ b
same_finished a b e = cc

pub finishes : (c : BoardView) (s k : ℕ) (a : TaskView) (ids : List JobId) (taken room : ℕ) (state : SenderView) → IsBoard c ids taken room
    → slice_get c s ≡ Some state → slice_get state.stages k ≡ Some Taken → slice_get state.tasks k ≡ Some a
    → IsBoard (set c s (with_stage k (Finished a) state)) ids (taken - 1) room
finishes c s k a ids taken room state b at was fits =
    let some = some_taken c ids taken room s k state b at was in
    record {
      few = omega (arith, b.few, length-set c s (with_stage k (Finished a) state));
      content =
          content_set c s (with_stage k (Finished a) state) (slice_get_within c s state at) b.content
          (state_restaged state k Taken (Finished a) (b.content s state at) was refl (λ a' e. fits ∙ ap Some (same_finished a a' e)));
      lists = lists_restaged c s k state Taken (Finished a) ids ids at was b.lists refl (λ s' k' ne. refl);
      counts = omega (arith, b.counts, taken_restaged c s k state Taken (Finished a) at was);
      has_room = omega (arith, b.has_room);
    }

not_next : (state : SenderView) (b : Bool) → state_after_handed state (cond b handed.Drained handed.Waiting) ≡ state
not_next state true = refl
not_next state false = refl

-- a sender keeps its facts in a deliver
pub handed_is_state : (state : SenderView) (o : Option Stage) → slice_get state.stages state.handed ≡ o → IsSender state
    → IsSender (state_after_handed state (deliver_reply_at state o))
handed_is_state state None at h =
    let P : SenderView → Type 0 = IsSender in
    subst P (sym (not_next state (state.closed && (state.handed == length state.tasks)))) h
handed_is_state state (Some Waiting) at h =
    let P : SenderView → Type 0 = IsSender in
    subst P (sym (not_next state (state.closed && (state.handed == length state.tasks)))) h
handed_is_state state (Some Taken) at h =
    let P : SenderView → Type 0 = IsSender in
    subst P (sym (not_next state (state.closed && (state.handed == length state.tasks)))) h
handed_is_state state (Some (Finished a)) at h = record {
  stages = h.stages;
  most = h.most;
  handed = omega (arith, h.stages, slice_get_within state.stages state.handed (Finished a) at);
  finished = below_more (λ k. is_finished (slice_get state.stages k) ≡ true) state.handed h.finished (ap is_finished at);
  solved = h.solved;
}

pub handed_same_stages : (state : SenderView) (r : Handed) → (state_after_handed state r).stages ≡ state.stages
handed_same_stages state (handed.Next d) = refl
handed_same_stages state handed.Waiting = refl
handed_same_stages state handed.Drained = refl
handed_same_stages state handed.NoSender = refl

pub delivers : (c : BoardView) (ids : List JobId) (taken room s : ℕ) (state : SenderView) → IsBoard c ids taken room → slice_get c s ≡ Some state
    → IsBoard (set c s (state_after_handed state (deliver_reply_of state))) ids taken room
delivers c ids taken room s state b at =
    keeps c ids taken room s state (state_after_handed state (deliver_reply_of state)) b at
    (handed_same_stages state (deliver_reply_of state)) (handed_is_state state (slice_get state.stages state.handed) refl (b.content s state at))

pub delivered : (c : BoardView) (s : ℕ) (state : SenderView) (r : Handed) → slice_get c s ≡ Some state
    → set c s (state_after_handed state r) ≡ after_deliver c s r
delivered c s state (handed.Next d) at = sym (change_at c s state with_one_handed at)
delivered c s state handed.Waiting at = set_same c s state at
delivered c s state handed.Drained at = set_same c s state at
delivered c s state handed.NoSender at = set_same c s state at

-- where a finish is accepted, the job was taken and the answer is that of its task
pub finish_ok : (o : Option Stage) (task : Option TaskView) (a : TaskView) (u : Unit {0}) → FinishAs o task a (Ok u) → (o ≡ Some Taken) × (task ≡ Some a)
finish_ok None task a u h = cc
finish_ok (Some Waiting) task a u h = cc
finish_ok (Some Taken) task a u h = (refl, h)
finish_ok (Some (Finished b)) task a u h = cc

-- a reply to a finish that is lawful of the view of the job's sender is lawful of the board
pub finish_at : (c : BoardView) (id : JobId) (a : TaskView) (r : Result (Unit {0}) JobFault) (state : SenderView) → slice_get c id.sender ≡ Some state
    → FinishAs (slice_get state.stages id.number) (slice_get state.tasks id.number) a r → Finishes c id a r
finish_at c id a r state at h =
    let P : Option SenderView → Type 0 = λ o. FinishAs (stage_of_job id.number o) (task_of_job id.number o) a r in
    subst P (sym at) h

-- a reply to a finish that is lawful of the board is lawful of the view of the job's sender
pub finish_from : (c : BoardView) (id : JobId) (a : TaskView) (r : Result (Unit {0}) JobFault) (state : SenderView) → slice_get c id.sender ≡ Some state
    → Finishes c id a r → FinishAs (slice_get state.stages id.number) (slice_get state.tasks id.number) a r
finish_from c id a r state at h = let P : Option SenderView → Type 0 = λ o. FinishAs (stage_of_job id.number o) (task_of_job id.number o) a r in subst P at h

-- where a give back is accepted, the job was taken
pub give_back_ok : (o : Option Stage) (u : Unit {0}) → Ok u ≡ give_back_reply_at o → o ≡ Some Taken
give_back_ok None u e = cc
give_back_ok (Some Waiting) u e = cc
give_back_ok (Some Taken) u e = refl
give_back_ok (Some (Finished a)) u e = cc

waiting_from : (o : Option Stage) → 0 < bit (is_waiting o) → o ≡ Some Waiting
waiting_from None h = absurd (omega arith)
waiting_from (Some Waiting) h = refl
waiting_from (Some Taken) h = absurd (omega arith)
waiting_from (Some (Finished a)) h = absurd (omega arith)

state_from : (k : ℕ) (o : Option SenderView) → stage_of_job k o ≡ Some Waiting
    → (state : SenderView) × (o ≡ Some state) × (slice_get state.stages k ≡ Some Waiting)
state_from k None e = cc
state_from k (Some state) e = (state, refl, e)

-- a job that the queue returned waits
pub first_waits : (c : BoardView) (id : JobId) (ids ids' : List JobId) (taken room : ℕ) → IsBoard c ids taken room
    → IsPermutation ids (id ∷ ids') → stage_at c id.sender id.number ≡ Some Waiting
first_waits c id ids ids' taken room b moved =
    waiting_from (stage_at c id.sender id.number)
    (omega (arith, b.lists id.sender id.number, bit_same id, id_count-popped id.sender id.number id ids ids' moved))

pub first_state : (c : BoardView) (id : JobId) (ids ids' : List JobId) (taken room : ℕ) → IsBoard c ids taken room
    → IsPermutation ids (id ∷ ids') → (state : SenderView) × (slice_get c id.sender ≡ Some state) × (slice_get state.stages id.number ≡ Some Waiting)
first_state c id ids ids' taken room b moved = state_from id.number (slice_get c id.sender) (first_waits c id ids ids' taken room b moved)

-- a job that the queue returned waits in the view of its sender
pub first_stage : (c : BoardView) (id : JobId) (ids ids' : List JobId) (taken room : ℕ) (state : SenderView)
    → IsBoard c ids taken room → IsPermutation ids (id ∷ ids') → slice_get c id.sender ≡ Some state → slice_get state.stages id.number ≡ Some Waiting
first_stage c id ids ids' taken room state b moved at = sym (ap (stage_of_job id.number) at) ∙ first_waits c id ids ids' taken room b moved

slice_get_none_past : {X : Type 0} (xs : List X) (k : ℕ) → k < length xs → slice_get xs k ≡ None → ⊥
slice_get_none_past [] k lt e = omega arith
slice_get_none_past (x ∷ xs) zero lt e = cc
slice_get_none_past (x ∷ xs) (suc k) lt e = slice_get_none_past xs k (omega arith) e

-- a job that has a stage has a task
pub has_task : (state : SenderView) (k : ℕ) (st : Stage) → IsSender state → slice_get state.stages k ≡ Some st → slice_get state.tasks k ≡ None → ⊥
has_task state k st h at none =
    let lt : k < length state.tasks = omega (arith, h.stages, slice_get_within state.stages k st at) in
    slice_get_none_past state.tasks k lt none

taken-push : (stages : List Stage) → count_by is_taken (stages ++ Waiting ∷ []) ≡ count_by is_taken stages
taken-push stages = grind (arith, common_steps)

pub state_with_task : (state : SenderView) (t : TaskView) → IsSender state → length state.tasks < 65535 → IsSender (with_task t state)
state_with_task state t h few = record {
  stages = omega (arith, h.stages, length-append state.stages (Waiting ∷ []), length-append state.tasks (t ∷ []));
  most = omega (arith, length-append state.tasks (t ∷ []));
  handed = omega (arith, h.handed, length-append state.tasks (t ∷ []));
  finished = λ k lt. ap is_finished (slice_get-push_other state.stages Waiting k (λ e. omega (arith, h.handed, h.stages))) ∙ h.finished k lt;
  solved = λ k a got. elim (cases_eq k (length state.stages)) [
    | inl e ↦ let now : Some Waiting ≡ Some (Finished a) = sym (slice_get-push_same state.stages Waiting k e) ∙ got in cc
    | inr ne ↦
        let was : slice_get state.stages k ≡ Some (Finished a) = sym (slice_get-push_other state.stages Waiting k ne) ∙ got in
        let P : Option TaskView → Type 0 = λ o. o ≡ Some a in
        subst P (sym (slice_get-push_other state.tasks t k (λ e. ne (e ∙ sym h.stages)))) (h.solved k a was)
  ];
}

-- a sender keeps its facts where its next answer is delivered
pub state_handed : (state : SenderView) (d : Delivery) → IsSender state → handed.Next d ≡ deliver_reply_of state → IsSender (with_one_handed state)
state_handed state d h e =
    let P : Handed → Type 0 = λ r. IsSender (state_after_handed state r) in
    subst P (sym e) (handed_is_state state (slice_get state.stages state.handed) refl h)

pub submits : (c : BoardView) (s : ℕ) (t : TaskView) (ids ids' : List JobId) (taken room room' : ℕ) (state : SenderView) → IsBoard c ids taken room
    → slice_get c s ≡ Some state → length state.tasks < 65535
    → IsPermutation (record { sender = s; number = length state.tasks } ∷ ids) ids' → length ids + (taken + 1) ≤ room'
    → IsBoard (set c s (with_task t state)) ids' taken room'
submits c s t ids ids' taken room room' state b at few moved enough =
    let h = b.content s state at in
    let id : JobId = record { sender = s; number = length state.tasks } in
    let none : slice_get state.stages (length state.tasks) ≡ None = slice_get_past state.stages (length state.tasks) (omega (arith, h.stages)) in
    record {
      few = omega (arith, b.few, length-set c s (with_task t state));
      content = content_set c s (with_task t state) (slice_get_within c s state at) b.content (state_with_task state t h few);
      lists = lists_set c s state (with_task t state) ids ids' at b.lists
          (λ k. elim (cases_eq k (length state.tasks)) [
            | inl e ↦
                let before : slice_get state.stages k ≡ None = ap (slice_get state.stages) e ∙ none in
                let now : slice_get (state.stages ++ Waiting ∷ []) k ≡ Some Waiting = slice_get-push_same state.stages Waiting k (e ∙ sym h.stages) in
                omega (
                  arith,
                  id_count-pushed s k id ids ids' moved,
                  bit_same id,
                  ap (λ n. bit (is_id_of s n id)) e,
                  ap (λ o. bit (is_waiting o)) before,
                  ap (λ o. bit (is_waiting o)) now,
                )
            | inr ne ↦
                let now : slice_get (state.stages ++ Waiting ∷ []) k ≡ slice_get state.stages k =
                slice_get-push_other state.stages Waiting k (λ e. ne (e ∙ h.stages)) in
                omega (arith, id_count-pushed s k id ids ids' moved, bit_other id s k (inr ne), ap (λ o. bit (is_waiting o)) now)
          ])
          (λ s' k ne. omega (arith, id_count-pushed s' k id ids ids' moved, bit_other id s' k (inl ne)));
      counts = omega (arith, b.counts, taken-set c s state (with_task t state) at, taken-push state.stages);
      has_room = omega (arith, enough, length_permutation (id ∷ ids) ids' moved);
    }

pub with_ids : (c : BoardView) (ids ids' : List JobId) (taken room : ℕ) → IsBoard c ids taken room → ids ≡ ids' → IsBoard c ids' taken room
with_ids c ids ids' taken room b e = let P : List JobId → Type 0 = λ l. IsBoard c l taken room in subst P e b

-- a board keeps its facts where there is more room
pub with_room : (c : BoardView) (ids : List JobId) (taken room room' : ℕ) → IsBoard c ids taken room → room ≤ room' → IsBoard c ids taken room'
with_room c ids taken room room' b more = record { few = b.few; content = b.content; lists = b.lists; counts = b.counts; has_room = omega (arith, b.has_room) }

pub submit_lawful : (c : BoardView) (s : ℕ) (state : SenderView) (r : Result ℕ SubmitFault) → slice_get c s ≡ Some state → submit_refusal (Some state) ≡ None
    → (r ≡ Ok (length state.tasks)) ⊎ (r ≡ Err fault.Memory) → Submits c s r
submit_lawful c s state r at none ok =
    let P : Option SenderView → Type 0 = λ o. SubmitAs (submit_refusal o) (task_count o) r in
    let Q : Option SubmitFault → Type 0 = λ o. SubmitAs o (length state.tasks) r in
    subst P (sym at) (subst Q (sym none) ok)

pub not_refused : (state : SenderView) → state.closed ≡ false → length state.tasks < 65535 → submit_refusal (Some state) ≡ None
not_refused state open_ few =
    ap (λ b. cond b (Some fault.Closed) (cond (ltb 65534 (length state.tasks)) (Some fault.Full) None)) open_
    ∙ ap (λ b. cond b (Some fault.Full) None) (le-ltb 65534 (length state.tasks) (omega arith))

few_if : (b full : Bool) → cond b (Some fault.Closed) (cond full (Some fault.Full) None) ≡ None → full ≡ false
few_if true full e = cc
few_if false true e = cc
few_if false false e = refl

-- a sender that is not refused has room for a task
pub few_tasks : (state : SenderView) → submit_refusal (Some state) ≡ None → length state.tasks < 65535
few_tasks state e = omega (arith, ltb-false 65534 (length state.tasks) (few_if state.closed (ltb 65534 (length state.tasks)) e))

pub read_again : {X : Type 0} (xs : List X) (i : ℕ) (y x : X) → slice_get xs i ≡ Some y → x ≡ get_or xs i x → slice_get xs i ≡ Some x
read_again xs i y x at e = slice_get_read xs (length xs) i x refl (slice_get_within xs i y at) e

replicated : {X : Type 0} (n : ℕ) (x : X) (s : ℕ) (y : X) → slice_get (replicate n x) s ≡ Some y → x ≡ y
replicated zero x s y e = cc
replicated (suc n) x zero y e = same_Some x y e
replicated (suc n) x (suc s) y e = replicated n x s y e

unqueued : (k : ℕ) (o : Option SenderView) → ((state : SenderView) → o ≡ Some state → state.stages ≡ []) → is_waiting (stage_of_job k o) ≡ false
unqueued k None h = refl
unqueued k (Some state) h = ap (λ (l : List Stage). is_waiting (slice_get l k)) (h state refl)

all_at : (c : BoardView) (s : ℕ) (state : SenderView) → All (λ (state : SenderView). state.closed ≡ true) c → slice_get c s ≡ Some state → state.closed ≡ true
all_at c s state h at = ap (λ (l : SenderView). l.closed) (sym (get_or_from_slice_get c s state state at)) ∙ h s state (slice_get_within c s state at)

pub closed_all : (c : BoardView) → AllDone c → All (λ (state : SenderView). state.closed ≡ true) c
closed_all c done k d lt = (done k (get_or c k d) (slice_get-get_or c k d lt)).0

stage_done : (c : BoardView) (taken room : ℕ) → IsBoard c [] taken room → taken ≡ 0
    → (s k : ℕ) (state : SenderView) (stage : Stage) → slice_get c s ≡ Some state → slice_get state.stages k ≡ Some stage → is_finished (Some stage) ≡ true
stage_done c taken room b none s k state Waiting at was =
    let there : stage_at c s k ≡ Some Waiting = ap (stage_of_job k) at ∙ was in
    absurd (omega (arith, b.lists s k, ap (λ o. bit (is_waiting o)) there))
stage_done c taken room b none s k state Taken at was = absurd (omega (arith, some_taken c [] taken room s k state b at was))
stage_done c taken room b none s k state (Finished a) at was = refl

sum_zero : (c : BoardView) → ((s : ℕ) (state : SenderView) → slice_get c s ≡ Some state → taken_in state ≡ 0) → taken_count c ≡ 0
sum_zero [] h = refl
sum_zero (state ∷ c) h = omega (arith, sum_by-cons taken_in state c, h zero state refl, sum_zero c (λ s state' at. h (suc s) state' at))

none_taken : (stages : List Stage) → ((k : ℕ) (stage : Stage) → slice_get stages k ≡ Some stage → is_finished (Some stage) ≡ true)
    → count_by is_taken stages ≡ 0
none_taken [] h = refl
none_taken (Waiting ∷ stages) h = absurd (false≢true (h zero Waiting refl))
none_taken (Taken ∷ stages) h = absurd (false≢true (h zero Taken refl))
none_taken (Finished a ∷ stages) h =
    omega (arith, sum_by-cons (λ x. cond (is_taken x) 1 0) (Finished a) stages, none_taken stages (λ k stage at. h (suc k) stage at))

pub new_board : (n room : ℕ) → n ≤ 64 → IsBoard (empty_content n) [] 0 room
new_board n room h = record {
  few = omega (arith, h, length-replicate n empty_state);
  content =
      λ s state at.
      let P : SenderView → Type 0 = IsSender in
      subst P (replicated n empty_state s state at)
      (record { stages = refl; most = omega arith; handed = omega arith; finished = λ k lt. absurd (omega arith); solved = λ k a e. cc });
  lists =
      λ s k. sym (ap bit
      (unqueued k (slice_get (empty_content n) s) (λ state at. ap (λ (l : SenderView). l.stages) (sym (replicated n empty_state s state at)))));
  counts = sym (sum_by-replicate taken_in n empty_state ∙ omega arith);
  has_room = omega arith;
}

-- a board with nothing waiting and nothing taken, and closed senders, is done
pub done_by : (c : BoardView) (ids : List JobId) (taken room : ℕ) → IsBoard c ids taken room → length ids ≡ 0
    → taken ≡ 0 → All (λ (state : SenderView). state.closed ≡ true) c → AllDone c
done_by c [] taken room b empty none closed s state at = (
  all_at c s state closed at,
  λ k stage was. stage_done c taken room b none s k state stage at was,
)
done_by c (id ∷ ids) taken room b empty none closed s state at = absurd (omega arith)

pub done_none_waits : (c : BoardView) (ids : List JobId) (taken room : ℕ) → IsBoard c ids taken room → AllDone c → length ids ≡ 0
done_none_waits c [] taken room b done = refl
done_none_waits c (id ∷ ids) taken room b done =
    let found : (state : SenderView) × (slice_get c id.sender ≡ Some state) × (slice_get state.stages id.number ≡ Some Waiting) =
    first_state c id (id ∷ ids) ids taken room b (IsPermutation-refl (id ∷ ids)) in
    absurd (false≢true ((done id.sender found.0 found.1).1 id.number Waiting found.2))

pub done_none_taken : (c : BoardView) (ids : List JobId) (taken room : ℕ) → IsBoard c ids taken room → AllDone c → taken ≡ 0
done_none_taken c ids taken room b done = b.counts ∙ sum_zero c (λ s state at. none_taken state.stages (λ k stage was. (done s state at).1 k stage was))

few_counted : (c : BoardView) → IsBoardView c → taken_count c ≤ length c * 65535
few_counted [] all = omega arith
few_counted (state ∷ c) all =
    let h = all 0 state refl in
    omega (
      arith,
      sum_by-cons taken_in state c,
      count_by-le-length is_taken state.stages,
      h.stages,
      h.most,
      few_counted c (λ s state' at. all (suc s) state' at),
    )

pub few_taken : (c : BoardView) (ids : List JobId) (taken room : ℕ) → IsBoard c ids taken room → taken ≤ 64 * 65535
few_taken c ids taken room b = omega (arith, b.few, b.counts, few_counted c b.content)

not_next_if : (d : Delivery) (b : Bool) → handed.Next d ≡ cond b handed.Drained handed.Waiting → ⊥
not_next_if d true e = cc
not_next_if d false e = cc

-- a delivered answer has the next number, and its job is finished with it
pub next_facts : (state : SenderView) (d : Delivery) (o : Option Stage) → handed.Next d ≡ deliver_reply_at state o
    → (d.number ≡ state.handed) × (o ≡ Some (Finished d.solved))
next_facts state d None e = absurd (not_next_if d (state.closed && (state.handed == length state.tasks)) e)
next_facts state d (Some Waiting) e = absurd (not_next_if d (state.closed && (state.handed == length state.tasks)) e)
next_facts state d (Some Taken) e = absurd (not_next_if d (state.closed && (state.handed == length state.tasks)) e)
next_facts state d (Some (Finished a)) e =
    let same : d ≡ record { number = state.handed; solved = a } = cc in
    (ap (λ (x : Delivery). x.number) same, ap (λ (x : Delivery). Some (Finished x.solved)) (sym same))
