use Rattle.std.proofs.Common.{◌≡◌, ◌∷◌, Some, slice_get, ap, sym, ◌∙◌, arith}
use Rattle.std.proofs.lemmas.List.Sorted.{length_permutation}
use Rattle.std.proofs.lemmas.Option.{slice_get_within}
use Rattle.job_board.specs.declared.jobs.Stage.TheVariants.{Waiting, Taken}
use Rattle.job_board.specs.Senders.{SenderView, with_stage, task_of_job}
use Rattle.job_board.proofs.BoardFacts.{with_ids, read_again, takes, first_waits, first_state, first_stage, has_task, change_at}
use Rattle.job_board.proofs.board.Board.take.Goals as goal

pub invariant_of-self : goal.invariant_of-self
invariant_of-self c =
    let none = c.in_err-id.ensures.none in
    rw c.in_err-id.ensures.room
    (with_ids c.self.inside.senders.items c.self.inside.waiting.jobs c.pop.new.self.jobs c.self.inside.taken
    c.self.inside.waiting.room c.self.invariant (none.0 ∙ sym none.1))

pub overflow_add-self : goal.overflow_add-self
overflow_add-self c =
    omega (
      arith,
      c.self.invariant.has_room,
      length_permutation c.self.inside.waiting.jobs (c.in_ok-id.id ∷ c.pop.new.self.jobs) c.in_ok-id.ensures.some,
      c.pop.ensures.room_fits,
    )

pub index_mut-jobs-requires : goal.index_mut-jobs-requires
index_mut-jobs-requires c =
    let found : (state : SenderView) × (slice_get c.self.inside.senders.items c.in_ok-id.id.sender ≡ Some state)
    × (slice_get state.stages c.in_ok-id.id.number ≡ Some Waiting) =
    first_state c.self.inside.senders.items c.in_ok-id.id c.self.inside.waiting.jobs c.pop.new.self.jobs
    c.self.inside.taken c.self.inside.waiting.room c.self.invariant c.in_ok-id.ensures.some in
    omega (arith, slice_get_within c.self.inside.senders.items c.in_ok-id.id.sender found.0 found.1, c.self.inside.senders.ok.0)

pub unreachable-requires : goal.unreachable-requires
unreachable-requires c =
    let found : (state : SenderView) × (slice_get c.self.inside.senders.items c.in_ok-id.id.sender ≡ Some state)
    × (slice_get state.stages c.in_ok-id.id.number ≡ Some Waiting) =
    first_state c.self.inside.senders.items c.in_ok-id.id c.self.inside.waiting.jobs c.pop.new.self.jobs
    c.self.inside.taken c.self.inside.waiting.room c.self.invariant c.in_ok-id.ensures.some in
    let at = read_again c.self.inside.senders.items c.in_ok-id.id.sender found.0 c.index_mut-jobs.result.now found.1 c.index_mut-jobs.ensures.value in
    let was =
    first_stage c.self.inside.senders.items c.in_ok-id.id c.self.inside.waiting.jobs c.pop.new.self.jobs
    c.self.inside.taken c.self.inside.waiting.room c.index_mut-jobs.result.now c.self.invariant c.in_ok-id.ensures.some at in
    has_task c.index_mut-jobs.result.now c.in_ok-id.id.number Waiting
    (c.self.invariant.content c.in_ok-id.id.sender c.index_mut-jobs.result.now at) was (sym c.task.ensures ∙ c.in_default.is)

pub set_stage-requires : goal.set_stage-requires
set_stage-requires c =
    let found : (state : SenderView) × (slice_get c.self.inside.senders.items c.in_ok-id.id.sender ≡ Some state)
    × (slice_get state.stages c.in_ok-id.id.number ≡ Some Waiting) =
    first_state c.self.inside.senders.items c.in_ok-id.id c.self.inside.waiting.jobs c.pop.new.self.jobs
    c.self.inside.taken c.self.inside.waiting.room c.self.invariant c.in_ok-id.ensures.some in
    let at = read_again c.self.inside.senders.items c.in_ok-id.id.sender found.0 c.index_mut-jobs.result.now found.1 c.index_mut-jobs.ensures.value in
    let was =
    first_stage c.self.inside.senders.items c.in_ok-id.id c.self.inside.waiting.jobs c.pop.new.self.jobs
    c.self.inside.taken c.self.inside.waiting.room c.index_mut-jobs.result.now c.self.invariant c.in_ok-id.ensures.some at in
    slice_get_within c.index_mut-jobs.result.now.stages c.in_ok-id.id.number Waiting was

pub invariant_of-self-2 : goal.invariant_of-self-2
invariant_of-self-2 c =
    let found : (state : SenderView) × (slice_get c.self.inside.senders.items c.in_ok-id.id.sender ≡ Some state)
    × (slice_get state.stages c.in_ok-id.id.number ≡ Some Waiting) =
    first_state c.self.inside.senders.items c.in_ok-id.id c.self.inside.waiting.jobs c.pop.new.self.jobs
    c.self.inside.taken c.self.inside.waiting.room c.self.invariant c.in_ok-id.ensures.some in
    let at = read_again c.self.inside.senders.items c.in_ok-id.id.sender found.0 c.index_mut-jobs.result.now found.1 c.index_mut-jobs.ensures.value in
    let was =
    first_stage c.self.inside.senders.items c.in_ok-id.id c.self.inside.waiting.jobs c.pop.new.self.jobs
    c.self.inside.taken c.self.inside.waiting.room c.index_mut-jobs.result.now c.self.invariant c.in_ok-id.ensures.some at in
    rw (c.set_stage.ensures, c.in_ok-id.ensures.room)
    (takes c.self.inside.senders.items c.in_ok-id.id c.self.inside.waiting.jobs c.pop.new.self.jobs
    c.self.inside.taken c.self.inside.waiting.room c.index_mut-jobs.result.now c.self.invariant c.in_ok-id.ensures.some at was)

pub returns-clause-lawful : goal.returns-clause-lawful
returns-clause-lawful c =
    let found : (state : SenderView) × (slice_get c.self.inside.senders.items c.in_ok-id.id.sender ≡ Some state)
    × (slice_get state.stages c.in_ok-id.id.number ≡ Some Waiting) =
    first_state c.self.inside.senders.items c.in_ok-id.id c.self.inside.waiting.jobs c.pop.new.self.jobs
    c.self.inside.taken c.self.inside.waiting.room c.self.invariant c.in_ok-id.ensures.some in
    let at = read_again c.self.inside.senders.items c.in_ok-id.id.sender found.0 c.index_mut-jobs.result.now found.1 c.index_mut-jobs.ensures.value in
    rw (← c.self.view_is) (
      first_waits c.self.inside.senders.items c.in_ok-id.id c.self.inside.waiting.jobs c.pop.new.self.jobs
          c.self.inside.taken c.self.inside.waiting.room c.self.invariant c.in_ok-id.ensures.some,
      ap (task_of_job c.in_ok-id.id.number) at ∙ (sym c.task.ensures ∙ c.in-Some.is),
    )

pub returns-clause-content : goal.returns-clause-content
returns-clause-content c =
    let found : (state : SenderView) × (slice_get c.self.inside.senders.items c.in_ok-id.id.sender ≡ Some state)
    × (slice_get state.stages c.in_ok-id.id.number ≡ Some Waiting) =
    first_state c.self.inside.senders.items c.in_ok-id.id c.self.inside.waiting.jobs c.pop.new.self.jobs
    c.self.inside.taken c.self.inside.waiting.room c.self.invariant c.in_ok-id.ensures.some in
    let at = read_again c.self.inside.senders.items c.in_ok-id.id.sender found.0 c.index_mut-jobs.result.now found.1 c.index_mut-jobs.ensures.value in
    rw (← c.self.view_is, c.set_stage.ensures)
    (sym (change_at c.self.inside.senders.items c.in_ok-id.id.sender c.index_mut-jobs.result.now (with_stage c.in_ok-id.id.number Taken) at))
