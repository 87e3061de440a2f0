-- The answers that a client received are, in order, those of the tasks that it sent.
use Rattle.std.proofs.Common.{◌≡◌, ℕ, ◌+◌, List, [], ◌∷◌, ◌++◌, length, map, refl, sym, ap, ◌∙◌, subst, arith, append-nil, append_assoc}
use Rattle.std.proofs.lemmas.List.{length_push}
use Rattle.std.proofs.lemmas.Option.{same_Some}
use Rattle.endgame_search.specs.Task.{TaskView}
use Rattle.job_board.specs.declared.jobs.Delivery.{Delivery}
use Rattle.job_board.specs.declared.client.Turn.{Turn}
use Rattle.job_board.specs.declared.client.Turn.TheVariants.{Next, Work, Drained}
use Rattle.job_board.specs.Histories.{InOrder}
use Rattle.job_board.specs.Client.{ClientView, new_client, with_sent}
use Rattle.job_board.specs.Turns.{IsServed}
use Rattle.job_board.specs.Services.{Event, Sent, Returned, Leads, sent_tasks, received_answers}
use Rattle.job_board.proofs.Deliveries.{slice_get-append}
use Rattle.job_board.proofs.TraceFacts.{slice_get-mid}

in_order_from : (old : ClientView) (es : List Event) (new : ClientView) → Leads old es new
    → InOrder (old.sent ++ sent_tasks es) old.received (received_answers es)
in_order_from old [] new leads = tt
in_order_from old (Sent t ∷ es) new leads =
    let P : List TaskView → Type 0 = λ tasks. InOrder tasks old.received (received_answers es) in
    subst P (append_assoc old.sent (t ∷ []) (sent_tasks es)) (in_order_from (with_sent t old) es new leads)
in_order_from old (Returned (Next d) ∷ es) new leads =
    let gives = leads.1 in
    let P : ClientView → Type 0 = λ me. InOrder (me.sent ++ sent_tasks es) me.received (received_answers es) in (
      gives.0.0,
      slice_get-append old.sent (sent_tasks es) old.received d.solved gives.0.1,
      subst P gives.1 (in_order_from leads.0 es new leads.2),
    )
in_order_from old (Returned (Work job) ∷ es) new leads =
    let P : ClientView → Type 0 = λ me. InOrder (me.sent ++ sent_tasks es) me.received (received_answers es) in
    subst P leads.1 (in_order_from leads.0 es new leads.2)
in_order_from old (Returned Drained ∷ es) new leads =
    let P : ClientView → Type 0 = λ me. InOrder (me.sent ++ sent_tasks es) me.received (received_answers es) in
    subst P leads.1.0 (in_order_from leads.0 es new leads.2)

abbrev state_of : ℕ → List TaskView → ℕ → ClientView
state_of s tasks n = record { sender = s; sent = tasks; received = n }

-- the view of a client after the events
abbrev known_after : ClientView → List Event → ClientView
known_after old es = state_of old.sender (old.sent ++ sent_tasks es) (old.received + length (received_answers es))

same_state : (s : ℕ) (tasks tasks' : List TaskView) (n n' : ℕ) → tasks ≡ tasks' → n ≡ n' → state_of s tasks n ≡ state_of s tasks' n'
same_state s tasks tasks' n n' e f = ap (λ l. state_of s l n) e ∙ ap (state_of s tasks') f

known_from : (old : ClientView) (es : List Event) (new : ClientView) → Leads old es new → new ≡ known_after old es
known_from old [] new leads = leads ∙ same_state old.sender old.sent (old.sent ++ []) old.received (old.received + 0) (sym (append-nil old.sent)) (omega arith)
known_from old (Sent t ∷ es) new leads =
    known_from (with_sent t old) es new leads
    ∙ same_state old.sender ((old.sent ++ t ∷ []) ++ sent_tasks es) (old.sent ++ t ∷ sent_tasks es) _ _ (append_assoc old.sent (t ∷ []) (sent_tasks es)) refl
known_from old (Returned (Next d) ∷ es) new leads =
    known_from leads.0 es new leads.2
    ∙ (ap (λ me. known_after me es) leads.1.1
    ∙ same_state old.sender _ _ (old.received + 1 + length (received_answers es)) (old.received + length (d ∷ received_answers es)) refl (omega arith))
known_from old (Returned (Work job) ∷ es) new leads = known_from leads.0 es new leads.2 ∙ ap (λ me. known_after me es) leads.1
known_from old (Returned Drained ∷ es) new leads = known_from leads.0 es new leads.2 ∙ ap (λ me. known_after me es) leads.1.0

-- the view of the client before the last of the events
last_from : (old : ClientView) (es : List Event) (turn : Turn) (new : ClientView) → Leads old (es ++ Returned turn ∷ []) new
    → (me : ClientView) × Leads old es me × Leads me (Returned turn ∷ []) new
last_from old [] turn new leads = (old, refl, leads)
last_from old (Sent t ∷ es) turn new leads = last_from (with_sent t old) es turn new leads
last_from old (Returned reply ∷ es) turn new leads =
    let rest = last_from leads.0 es turn new leads.2 in
    (rest.0, (leads.0, leads.1, rest.1), rest.2)

answers_from : (before tasks : List TaskView) (first : ℕ) (ds : List Delivery) → length before ≡ first → InOrder (before ++ tasks) first ds
    → length ds ≡ length tasks → map (λ (d : Delivery). d.solved) ds ≡ tasks
answers_from before [] first [] is order same = refl
answers_from before [] first (d ∷ ds) is order same = absurd (omega arith)
answers_from before (t ∷ tasks) first [] is order same = absurd (omega arith)
answers_from before (t ∷ tasks) first (d ∷ ds) is order same =
    let here : d.solved ≡ t = same_Some d.solved t (sym order.1 ∙ slice_get-mid before t tasks first is) in
    let P : List TaskView → Type 0 = λ all. InOrder all (first + 1) ds in
    let rest =
    answers_from (before ++ t ∷ []) tasks (first + 1) ds (omega (arith, length_push before t))
    (subst P (sym (append_assoc before (t ∷ []) tasks)) order.2) (omega arith) in
    ap (λ a. a ∷ map (λ (d : Delivery). d.solved) ds) here ∙ ap (λ as'. t ∷ as') rest

pub received_in_order : (s : ℕ) (es : List Event) (me : ClientView) → Leads (new_client s) es me → InOrder (sent_tasks es) 0 (received_answers es)
received_in_order s es me leads = in_order_from (new_client s) es me leads

pub known : (s : ℕ) (es : List Event) (me : ClientView) → Leads (new_client s) es me
    → (me.sent ≡ sent_tasks es) × (me.received ≡ length (received_answers es))
known s es me leads =
    let e = known_from (new_client s) es me leads in
    (ap (λ (x : ClientView). x.sent) e, ap (λ (x : ClientView). x.received) e ∙ omega arith)

pub drained_received : (s : ℕ) (es : List Event) (me : ClientView) → Leads (new_client s) (es ++ Returned Drained ∷ []) me
    → map (λ (d : Delivery). d.solved) (received_answers es) ≡ sent_tasks es
drained_received s es me leads =
    let last = last_from (new_client s) es Drained me leads in
    let is = known s es last.0 last.1 in
    let served : IsServed last.0 = last.2.1.1 in
    answers_from [] (sent_tasks es) 0 (received_answers es) refl (received_in_order s es last.0 last.1) (omega (arith, served, is.1, ap length is.0))
