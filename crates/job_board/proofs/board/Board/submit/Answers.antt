use Rattle.std.proofs.Common.{◌≤◌, ◌+◌, ◌∷◌, length, Ok, Err, vec_len, ap, sym, arith, refl, inl, inr}
use Rattle.std.specs.List.Sorted.{IsPermutation}
use Rattle.std.proofs.lemmas.Option.{slice_get_read}
use Rattle.std.proofs.lemmas.Result.{err_from_is_err_and}
use Rattle.job_board.specs.declared.faults.SubmitFault.TheVariants as fault
use Rattle.job_board.specs.Senders.{with_task}
use Rattle.job_board.proofs.BoardFacts.{few_taken, few_tasks, submits, submit_lawful, with_room, with_ids, set_same, change_at}
use Rattle.job_board.proofs.board.Board.submit.Goals as goal

pub overflow_add-self-inside : goal.overflow_add-self-inside
overflow_add-self-inside c =
    omega (arith, few_taken c.self.inside.senders.items c.self.inside.waiting.jobs c.self.inside.taken c.self.inside.waiting.room c.self.invariant)

pub invariant_of-self-in_err-reserve : goal.invariant_of-self-in_err-reserve
invariant_of-self-in_err-reserve c =
    let at =
    slice_get_read c.self.inside.senders.items (vec_len c.self.inside.senders) c.args.sender c.in-Some.jobs.now
    (omega (arith, c.self.inside.senders.ok.0)) (c.in-Some.ensures.variant.0 refl) c.in-Some.ensures.value in
    let b =
    with_room c.self.inside.senders.items c.self.inside.waiting.jobs c.self.inside.taken c.self.inside.waiting.room
    c.reserve.new.self.room c.self.invariant c.reserve.ensures.room in
    rw (set_same c.self.inside.senders.items c.args.sender c.in-Some.jobs.now at)
    (with_ids c.self.inside.senders.items c.self.inside.waiting.jobs c.reserve.new.self.jobs c.self.inside.taken c.reserve.new.self.room b
    (sym c.reserve.ensures.jobs))

pub returns-in_err-reserve-clause-lawful : goal.returns-in_err-reserve-clause-lawful
returns-in_err-reserve-clause-lawful c =
    let at =
    slice_get_read c.self.inside.senders.items (vec_len c.self.inside.senders) c.args.sender c.in-Some.jobs.now
    (omega (arith, c.self.inside.senders.ok.0)) (c.in-Some.ensures.variant.0 refl) c.in-Some.ensures.value in
    let p = err_from_is_err_and c.from_residual-in_err-reserve.result c.from_residual-in_err-reserve.ensures.1 in
    rw (← c.self.view_is, p.1, p.2)
    (submit_lawful c.self.inside.senders.items c.args.sender c.in-Some.jobs.now (Err fault.Memory) at (sym c.in_ok-check_submit.ensures) (inr refl))

pub invariant_of-self-in_err-push : goal.invariant_of-self-in_err-push
invariant_of-self-in_err-push c =
    let at =
    slice_get_read c.self.inside.senders.items (vec_len c.self.inside.senders) c.args.sender c.in-Some.jobs.now
    (omega (arith, c.self.inside.senders.ok.0)) (c.in-Some.ensures.variant.0 refl) c.in-Some.ensures.value in
    let b =
    with_room c.self.inside.senders.items c.self.inside.waiting.jobs c.self.inside.taken c.self.inside.waiting.room
    c.reserve.new.self.room c.self.invariant c.in_ok-reserve.ensures.room in
    rw (c.in_err-push.ensures.err, set_same c.self.inside.senders.items c.args.sender c.in-Some.jobs.now at)
    (with_ids c.self.inside.senders.items c.self.inside.waiting.jobs c.reserve.new.self.jobs c.self.inside.taken c.reserve.new.self.room b
    (sym c.in_ok-reserve.ensures.jobs))

pub returns-in_err-push-clause-lawful : goal.returns-in_err-push-clause-lawful
returns-in_err-push-clause-lawful c =
    let at =
    slice_get_read c.self.inside.senders.items (vec_len c.self.inside.senders) c.args.sender c.in-Some.jobs.now
    (omega (arith, c.self.inside.senders.ok.0)) (c.in-Some.ensures.variant.0 refl) c.in-Some.ensures.value in
    let p = err_from_is_err_and c.from_residual-in_err-push.result c.from_residual-in_err-push.ensures.1 in
    rw (← c.self.view_is, p.1, p.2)
    (submit_lawful c.self.inside.senders.items c.args.sender c.in-Some.jobs.now (Err fault.Memory) at (sym c.in_ok-check_submit.ensures) (inr refl))

pub invariant_of-self-2 : goal.invariant_of-self-2
invariant_of-self-2 c =
    let at =
    slice_get_read c.self.inside.senders.items (vec_len c.self.inside.senders) c.args.sender c.in-Some.jobs.now
    (omega (arith, c.self.inside.senders.ok.0)) (c.in-Some.ensures.variant.0 refl) c.in-Some.ensures.value in
    let moved : IsPermutation (record { sender = c.args.sender; number = length c.in-Some.jobs.now.tasks } ∷ c.self.inside.waiting.jobs)
    c.push-2.new.self.jobs =
    rw (← c.in_ok-reserve.ensures.jobs, ← c.len-number.ensures) c.push-2.ensures.jobs in
    let room : length c.self.inside.waiting.jobs + (c.self.inside.taken + 1) ≤ c.push-2.new.self.room =
    omega (arith, c.in_ok-reserve.ensures.ok, ap length c.in_ok-reserve.ensures.jobs, c.push-2.ensures.room) in
    let few = few_tasks c.in-Some.jobs.now (sym c.in_ok-check_submit.ensures) in
    rw c.in_ok-push.ensures.ok
    (submits c.self.inside.senders.items c.args.sender c.args.task c.self.inside.waiting.jobs c.push-2.new.self.jobs
    c.self.inside.taken c.self.inside.waiting.room c.push-2.new.self.room c.in-Some.jobs.now c.self.invariant at few moved room)

pub returns-clause-lawful : goal.returns-clause-lawful
returns-clause-lawful c =
    let at =
    slice_get_read c.self.inside.senders.items (vec_len c.self.inside.senders) c.args.sender c.in-Some.jobs.now
    (omega (arith, c.self.inside.senders.ok.0)) (c.in-Some.ensures.variant.0 refl) c.in-Some.ensures.value in
    rw (← c.self.view_is)
    (submit_lawful c.self.inside.senders.items c.args.sender c.in-Some.jobs.now (Ok c.len-number.result) at
    (sym c.in_ok-check_submit.ensures) (inl (ap Ok c.len-number.ensures)))

pub returns-clause-content : goal.returns-clause-content
returns-clause-content c =
    let at =
    slice_get_read c.self.inside.senders.items (vec_len c.self.inside.senders) c.args.sender c.in-Some.jobs.now
    (omega (arith, c.self.inside.senders.ok.0)) (c.in-Some.ensures.variant.0 refl) c.in-Some.ensures.value in
    rw (← c.self.view_is, c.in_ok-push.ensures.ok) (sym (change_at c.self.inside.senders.items c.args.sender c.in-Some.jobs.now (with_task c.args.task) at))
