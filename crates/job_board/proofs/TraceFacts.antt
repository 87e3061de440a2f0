-- The trace of each view that a board may have is lawful and leaves that view.
use Rattle.std.proofs.Common.{◌≡◌, ℕ, suc, zero, ◌+◌, ◌<◌, ◌≤◌, Bool, true, false, List, [], ◌∷◌, ◌++◌, length, set}
use Rattle.std.proofs.Common.{Option, Some, Ok, slice_get, refl, sym, ap, ◌∙◌, subst, arith, inl, append-nil}
use Rattle.std.proofs.Common.{append_assoc, replicate, add-zero, zero-add}
use Rattle.std.proofs.lemmas.Option.{slice_get_within}
use Rattle.std.proofs.lemmas.List.{set_at, set-set, length_push}
use Rattle.std.proofs.lemmas.Bool.{false≢true}
use Rattle.endgame_search.specs.Task.{TaskView}
use Rattle.job_board.specs.declared.jobs.Stage.{Stage}
use Rattle.job_board.specs.declared.jobs.Stage.TheVariants.{Waiting, Taken, Finished}
use Rattle.job_board.specs.declared.jobs.Handed.TheVariants as handed
use Rattle.job_board.specs.declared.steps.Step.{Step}
use Rattle.job_board.specs.declared.steps.Step.TheVariants as step
use Rattle.job_board.specs.declared.steps.Reply.{Reply}
use Rattle.job_board.specs.declared.steps.Reply.TheVariants as reply
use Rattle.job_board.specs.Senders.{SenderView, BoardView, content_with, with_task, with_stage, with_one_handed}
use Rattle.job_board.specs.Senders.{closed_state, stage_of_job, task_of_job, is_finished, empty_state, empty_content}
use Rattle.job_board.specs.Boards.{IsSender, IsBoardView}
use Rattle.job_board.specs.Replies.{FinishAs, deliver_reply_in, deliver_reply_at, close_reply_in, give_back_reply_at}
use Rattle.job_board.specs.Steps.{IsLawful, after, AreLawful, after_all}
use Rattle.job_board.specs.Traces.{submit_steps, submit_replies, job_id, stage_steps, stage_replies, job_steps}
use Rattle.job_board.specs.Traces.{job_replies, deliver_steps, deliver_replies, close_steps, close_replies, state_steps}
use Rattle.job_board.specs.Traces.{state_replies, trace_steps, trace_replies}
use Rattle.job_board.proofs.BoardFacts.{slice_get-set_same, change_at, set_same, submit_lawful, not_refused, finish_at}
use Rattle.job_board.proofs.HistoryAppends.{AreLawful-append, after_all-append}

-- the steps with their replies are lawful from view c on, and leave view d
pub record Runs (c : BoardView) (ss : List Step) (rs : List Reply) (d : BoardView) : Type 0 where
  pub lawful : AreLawful c ss rs
  pub leaves : after_all c ss rs ≡ d

pub runs-append : (c d e : BoardView) (ss ss' : List Step) (rs rs' : List Reply) → Runs c ss rs d → Runs d ss' rs' e → Runs c (ss ++ ss') (rs ++ rs') e
runs-append c d e ss ss' rs rs' h k = record {
  lawful = AreLawful-append c ss ss' rs rs' h.lawful (let P : BoardView → Type 0 = λ x. AreLawful x ss' rs' in subst P (sym h.leaves) k.lawful);
  leaves = after_all-append c ss ss' rs rs' h.lawful ∙ (ap (λ x. after_all x ss' rs') h.leaves ∙ k.leaves);
}

one : (c d : BoardView) (s : Step) (r : Reply) → IsLawful c s r → after c s r ≡ d → Runs c (s ∷ []) (r ∷ []) d
one c d s r law e = record { lawful = (law, tt); leaves = e }

none : (c d : BoardView) → c ≡ d → Runs c [] [] d
none c d e = record { lawful = tt; leaves = e }

ends : (c d d' : BoardView) (ss : List Step) (rs : List Reply) → Runs c ss rs d → d ≡ d' → Runs c ss rs d'
ends c d d' ss rs h e = record { lawful = h.lawful; leaves = h.leaves ∙ e }

abbrev state_of : List TaskView → List Stage → ℕ → Bool → SenderView
state_of tasks stages handed closed = record { tasks = tasks; stages = stages; handed = handed; closed = closed }

pub slice_get-mid : {X : Type 0} (p : List X) (y : X) (ys : List X) (n : ℕ) → length p ≡ n → slice_get (p ++ y ∷ ys) n ≡ Some y
slice_get-mid [] y ys zero e = refl
slice_get-mid [] y ys (suc n) e = absurd (omega arith)
slice_get-mid (x ∷ p) y ys zero e = absurd (omega arith)
slice_get-mid (x ∷ p) y ys (suc n) e = slice_get-mid p y ys n (omega arith)

-- the submits of a trace are lawful, and add their tasks as waiting jobs
pub submits_run : (c : BoardView) (s : ℕ) (T : List TaskView) (S : List Stage) (h k : ℕ) (ts : List TaskView)
    → slice_get c s ≡ Some (state_of T S h false) → length T ≡ k → k + length ts ≤ 65535
    → Runs c (submit_steps s ts) (submit_replies k ts) (set c s (state_of (T ++ ts) (S ++ replicate (length ts) Waiting) h false))
submits_run c s T S h k [] at is few =
    none c _
    (sym (ap (λ (l : List TaskView). set c s (state_of l (S ++ []) h false)) (append-nil T)
    ∙ (ap (λ (l : List Stage). set c s (state_of T l h false)) (append-nil S) ∙ set_same c s (state_of T S h false) at)))
submits_run c s T S h k (t ∷ ts) at is few =
    let state : SenderView = state_of T S h false in
    let new : SenderView = state_of (T ++ t ∷ []) (S ++ Waiting ∷ []) h false in
    let d : BoardView = set c s new in
    let law : IsLawful c (step.Submit s t) (reply.Submitted (Ok k)) =
    submit_lawful c s state (Ok k) at (not_refused state refl (omega arith)) (inl (ap Ok (sym is))) in
    let first : Runs c (step.Submit s t ∷ []) (reply.Submitted (Ok k) ∷ []) d =
    one c d (step.Submit s t) (reply.Submitted (Ok k)) law (change_at c s state (with_task t) at) in
    let rest =
    submits_run d s (T ++ t ∷ []) (S ++ Waiting ∷ []) h (k + 1) ts
    (slice_get-set_same c s new (slice_get_within c s state at)) (omega (arith, length_push T t)) (omega arith) in
    ends c _ _ (submit_steps s (t ∷ ts)) (submit_replies k (t ∷ ts))
    (runs-append c d _ (step.Submit s t ∷ []) (submit_steps s ts) (reply.Submitted (Ok k) ∷ []) (submit_replies (k + 1) ts) first rest)
    (set-set c s new _
    ∙ (ap (λ (l : List TaskView). set c s (state_of l ((S ++ Waiting ∷ []) ++ replicate (length ts) Waiting) h false)) (append_assoc T (t ∷ []) ts)
    ∙ ap (λ (l : List Stage). set c s (state_of (T ++ t ∷ ts) l h false)) (append_assoc S (Waiting ∷ []) (replicate (length ts) Waiting))))

-- the view of the board where one stage in the middle of a sender's list changes
restage : (c : BoardView) (s : ℕ) (T : List TaskView) (P R : List Stage) (h k : ℕ) (old new : Stage)
    → slice_get c s ≡ Some (state_of T (P ++ old ∷ R) h false) → length P ≡ k
    → content_with c s (with_stage k new) ≡ set c s (state_of T (P ++ new ∷ R) h false)
restage c s T P R h k old new at is =
    change_at c s (state_of T (P ++ old ∷ R) h false) (with_stage k new) at ∙ ap (λ (l : List Stage). set c s (state_of T l h false)) (set_at P old R new k is)

-- the steps of a trace that bring a taken job to its stage are lawful
stage_run : (c : BoardView) (s : ℕ) (T : List TaskView) (P R : List Stage) (h k : ℕ) (st : Stage)
    → slice_get c s ≡ Some (state_of T (P ++ Taken ∷ R) h false) → length P ≡ k
    → ((a : TaskView) → st ≡ Finished a → slice_get T k ≡ Some a)
    → Runs c (stage_steps (job_id s k) st) (stage_replies st) (set c s (state_of T (P ++ st ∷ R) h false))
stage_run c s T P R h k Waiting at is fits =
    let taken : slice_get (P ++ Taken ∷ R) k ≡ Some Taken = slice_get-mid P Taken R k is in
    one c _ (step.GiveBack (job_id s k)) (reply.GaveBack (Ok tt))
    (sym (ap (λ o. give_back_reply_at (stage_of_job k o)) at ∙ ap give_back_reply_at taken)) (restage c s T P R h k Taken Waiting at is)
stage_run c s T P R h k Taken at is fits = none c _ (sym (set_same c s (state_of T (P ++ Taken ∷ R) h false) at))
stage_run c s T P' R h k (Finished a) at is fits =
    let taken : slice_get (P' ++ Taken ∷ R) k ≡ Some Taken = slice_get-mid P' Taken R k is in
    let P : Option Stage → Type 0 = λ o. FinishAs o (slice_get T k) a (Ok tt) in
    one c _ (step.Finish (job_id s k) a) (reply.Finished (Ok tt))
    (finish_at c (job_id s k) a (Ok tt) (state_of T (P' ++ Taken ∷ R) h false) at (subst P (sym taken) (fits a refl)))
    (restage c s T P' R h k Taken (Finished a) at is)

-- the steps of a trace for the jobs from number k on are lawful
pub jobs_run : (c : BoardView) (s : ℕ) (T Tp ts : List TaskView) (P sts : List Stage) (h k : ℕ)
    → slice_get c s ≡ Some (state_of T (P ++ replicate (length sts) Waiting) h false)
    → T ≡ Tp ++ ts → length Tp ≡ k → length P ≡ k → length sts ≡ length ts
    → ((i : ℕ) (a : TaskView) → slice_get sts i ≡ Some (Finished a) → slice_get ts i ≡ Some a)
    → Runs c (job_steps s k ts sts) (job_replies s k ts sts) (set c s (state_of T (P ++ sts) h false))
jobs_run c s T Tp [] P [] h k at split tk pk same fits = none c _ (sym (set_same c s (state_of T (P ++ []) h false) at))
jobs_run c s T Tp [] P (st ∷ sts) h k at split tk pk same fits = absurd (omega arith)
jobs_run c s T Tp (t ∷ ts) P [] h k at split tk pk same fits = absurd (omega arith)
jobs_run c s T Tp (t ∷ ts) P (st ∷ sts) h k at split tk pk same fits =
    let R : List Stage = replicate (length sts) Waiting in
    let here : slice_get T k ≡ Some t = ap (λ (l : List TaskView). slice_get l k) split ∙ slice_get-mid Tp t ts k tk in
    let c1 : BoardView = set c s (state_of T (P ++ Taken ∷ R) h false) in
    let c2 : BoardView = set c s (state_of T (P ++ st ∷ R) h false) in
    let lt : s < length c = slice_get_within c s (state_of T (P ++ Waiting ∷ R) h false) at in
    let take : Runs c (step.Take ∷ []) (reply.Took (Some (record { id = job_id s k; task = t })) ∷ []) c1 =
    one c c1 step.Take (reply.Took (Some (record { id = job_id s k; task = t })))
    (ap (stage_of_job k) at ∙ slice_get-mid P Waiting R k pk, ap (task_of_job k) at ∙ here)
    (restage c s T P R h k Waiting Taken at pk) in
    let settle : Runs c1 (stage_steps (job_id s k) st) (stage_replies st) c2 =
    ends c1 _ c2 (stage_steps (job_id s k) st) (stage_replies st)
    (stage_run c1 s T P R h k st (slice_get-set_same c s (state_of T (P ++ Taken ∷ R) h false) lt) pk (λ a e. here ∙ fits 0 a (ap Some e)))
    (set-set c s (state_of T (P ++ Taken ∷ R) h false) (state_of T (P ++ st ∷ R) h false)) in
    let at2 : slice_get c2 s ≡ Some (state_of T ((P ++ st ∷ []) ++ R) h false) =
    slice_get-set_same c s (state_of T (P ++ st ∷ R) h false) lt
    ∙ ap (λ (l : List Stage). Some (state_of T l h false)) (sym (append_assoc P (st ∷ []) R)) in
    let rest : Runs c2 (job_steps s (k + 1) ts sts) (job_replies s (k + 1) ts sts) (set c2 s (state_of T ((P ++ st ∷ []) ++ sts) h false)) =
    jobs_run c2 s T (Tp ++ t ∷ []) ts (P ++ st ∷ []) sts h (k + 1) at2 (split ∙ sym (append_assoc Tp (t ∷ []) ts))
    (omega (arith, length_push Tp t)) (omega (arith, length_push P st)) (omega arith) (λ i a e. fits (suc i) a e) in
    ends c _ _ (job_steps s k (t ∷ ts) (st ∷ sts)) (job_replies s k (t ∷ ts) (st ∷ sts))
    (runs-append c c1 _ (step.Take ∷ []) _ _ _ take (runs-append c1 c2 _ (stage_steps (job_id s k) st) _ (stage_replies st) _ settle rest))
    (set-set c s (state_of T (P ++ st ∷ R) h false) _ ∙ ap (λ (l : List Stage). set c s (state_of T l h false)) (append_assoc P (st ∷ []) sts))

-- the delivers of a trace are lawful, and count their answers
pub deliver_run : (c : BoardView) (s : ℕ) (T : List TaskView) (S Sp sts : List Stage) (k n : ℕ)
    → slice_get c s ≡ Some (state_of T S k false) → S ≡ Sp ++ sts → length Sp ≡ k
    → ((i : ℕ) → i < n → is_finished (slice_get sts i) ≡ true)
    → Runs c (deliver_steps s n) (deliver_replies k n sts) (set c s (state_of T S (k + n) false))
deliver_run c s T S Sp sts k zero at split pk done =
    none c _ (sym (ap (λ (m : ℕ). set c s (state_of T S m false)) (add-zero k) ∙ set_same c s (state_of T S k false) at))
deliver_run c s T S Sp [] k (suc n) at split pk done = absurd (false≢true (done 0 (omega arith)))
deliver_run c s T S Sp (Waiting ∷ sts) k (suc n) at split pk done = absurd (false≢true (done 0 (omega arith)))
deliver_run c s T S Sp (Taken ∷ sts) k (suc n) at split pk done = absurd (false≢true (done 0 (omega arith)))
deliver_run c s T S Sp (Finished a ∷ sts) k (suc n) at split pk done =
    let state : SenderView = state_of T S k false in
    let new : SenderView = state_of T S (k + 1) false in
    let d : BoardView = set c s new in
    let there : slice_get S k ≡ Some (Finished a) = ap (λ (l : List Stage). slice_get l k) split ∙ slice_get-mid Sp (Finished a) sts k pk in
    let first : Runs c (step.Deliver s ∷ []) (reply.Handed (handed.Next (record { number = k; solved = a })) ∷ []) d =
    one c d (step.Deliver s) (reply.Handed (handed.Next (record { number = k; solved = a })))
    (sym (ap deliver_reply_in at ∙ ap (deliver_reply_at state) there)) (change_at c s state with_one_handed at) in
    let rest : Runs d (deliver_steps s n) (deliver_replies (k + 1) n sts) (set d s (state_of T S (k + 1 + n) false)) =
    deliver_run d s T S (Sp ++ Finished a ∷ []) sts (k + 1) n
    (slice_get-set_same c s new (slice_get_within c s state at))
    (split ∙ sym (append_assoc Sp (Finished a ∷ []) sts)) (omega (arith, length_push Sp (Finished a))) (λ i lt. done (suc i) (omega arith)) in
    let count : k + 1 + n ≡ k + suc n = omega arith in
    ends c _ _ (deliver_steps s (suc n)) (deliver_replies k (suc n) (Finished a ∷ sts))
    (runs-append c d _ (step.Deliver s ∷ []) (deliver_steps s n)
    (reply.Handed (handed.Next (record { number = k; solved = a })) ∷ []) (deliver_replies (k + 1) n sts) first rest)
    (set-set c s new _ ∙ ap (λ (m : ℕ). set c s (state_of T S m false)) count)

close_run : (c : BoardView) (s : ℕ) (T : List TaskView) (S : List Stage) (h : ℕ) (b : Bool) → slice_get c s ≡ Some (state_of T S h false)
    → Runs c (close_steps s b) (close_replies b) (set c s (state_of T S h b))
close_run c s T S h false at = none c _ (sym (set_same c s (state_of T S h false) at))
close_run c s T S h true at =
    one c _ (step.Close s) (reply.Closed (Ok true)) (sym (ap close_reply_in at)) (change_at c s (state_of T S h false) closed_state at)

-- the steps of one sender in a trace are lawful, and lead from its empty view to its view
pub state_run : (c : BoardView) (s : ℕ) (state : SenderView) → slice_get c s ≡ Some empty_state → IsSender state
    → Runs c (state_steps s state) (state_replies s state) (set c s state)
state_run c s state at is =
    let T : List TaskView = state.tasks in
    let S : List Stage = state.stages in
    let lt : s < length c = slice_get_within c s empty_state at in
    let l1 : SenderView = state_of T (replicate (length T) Waiting) 0 false in
    let l2 : SenderView = state_of T S 0 false in
    let l3 : SenderView = state_of T S state.handed false in
    let c1 : BoardView = set c s l1 in
    let r1 : Runs c (submit_steps s T) (submit_replies 0 T) c1 = submits_run c s [] [] 0 0 T at refl (omega (arith, is.most)) in
    let at1 : slice_get c1 s ≡ Some l1 = slice_get-set_same c s l1 lt in
    let lt1 : s < length c1 = slice_get_within c1 s l1 at1 in
    let at1' : slice_get c1 s ≡ Some (state_of T ([] ++ replicate (length S) Waiting) 0 false) =
    at1 ∙ ap (λ (n : ℕ). Some (state_of T (replicate n Waiting) 0 false)) (sym is.stages) in
    let r2 : Runs c1 (job_steps s 0 T S) (job_replies s 0 T S) (set c s l2) =
    ends c1 _ _ (job_steps s 0 T S) (job_replies s 0 T S) (jobs_run c1 s T [] T [] S 0 0 at1' refl refl refl is.stages is.solved) (set-set c s l1 l2) in
    let at2 : slice_get (set c s l2) s ≡ Some l2 = slice_get-set_same c s l2 lt in
    let r3 : Runs (set c s l2) (deliver_steps s state.handed) (deliver_replies 0 state.handed S) (set c s l3) =
    ends (set c s l2) _ _ (deliver_steps s state.handed) (deliver_replies 0 state.handed S)
    (deliver_run (set c s l2) s T S [] S 0 state.handed at2 refl refl is.finished)
    (set-set c s l2 _ ∙ ap (λ (m : ℕ). set c s (state_of T S m false)) (zero-add state.handed)) in
    let at3 : slice_get (set c s l3) s ≡ Some l3 = slice_get-set_same c s l3 lt in
    let r4 : Runs (set c s l3) (close_steps s state.closed) (close_replies state.closed) (set c s state) =
    ends (set c s l3) _ _ (close_steps s state.closed) (close_replies state.closed)
    (close_run (set c s l3) s T S state.handed state.closed at3) (set-set c s l3 state) in
    runs-append c c1 _ _ _ _ _ r1 (runs-append c1 (set c s l2) _ _ _ _ _ r2 (runs-append (set c s l2) (set c s l3) _ _ _ _ _ r3 r4))

-- the trace of a view is lawful, and leaves the view
pub trace_run : (D c : BoardView) (s : ℕ) → length D ≡ s → IsBoardView c
    → Runs (D ++ replicate (length c) empty_state) (trace_steps s c) (trace_replies s c) (D ++ c)
trace_run D [] s is all = none (D ++ []) _ refl
trace_run D (state ∷ c) s is all =
    let R : BoardView = replicate (length c) empty_state in
    let first : Runs (D ++ empty_state ∷ R) (state_steps s state) (state_replies s state) (D ++ state ∷ R) =
    ends (D ++ empty_state ∷ R) _ _ (state_steps s state) (state_replies s state)
    (state_run (D ++ empty_state ∷ R) s state (slice_get-mid D empty_state R s is) (all 0 state refl)) (set_at D empty_state R state s is) in
    let rest : Runs ((D ++ state ∷ []) ++ R) (trace_steps (s + 1) c) (trace_replies (s + 1) c) ((D ++ state ∷ []) ++ c) =
    trace_run (D ++ state ∷ []) c (s + 1) (omega (arith, length_push D state)) (λ i l at. all (suc i) l at) in
    let P : BoardView → Type 0 = λ x. Runs x (trace_steps (s + 1) c) (trace_replies (s + 1) c) (D ++ state ∷ c) in
    runs-append (D ++ empty_state ∷ R) (D ++ state ∷ R) (D ++ state ∷ c) _ _ _ _ first
    (subst P (append_assoc D (state ∷ []) R)
    (ends ((D ++ state ∷ []) ++ R) _ _ (trace_steps (s + 1) c) (trace_replies (s + 1) c) rest (append_assoc D (state ∷ []) c)))

pub trace_lawful : (c : BoardView) → IsBoardView c → AreLawful (empty_content (length c)) (trace_steps 0 c) (trace_replies 0 c)
trace_lawful c all = (trace_run [] c 0 refl all).lawful

pub trace_leaves : (c : BoardView) → IsBoardView c → after_all (empty_content (length c)) (trace_steps 0 c) (trace_replies 0 c) ≡ c
trace_leaves c all = (trace_run [] c 0 refl all).leaves
