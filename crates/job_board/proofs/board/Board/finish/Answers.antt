use Rattle.std.proofs.Common.{vec_len, refl, sym, arith}
use Rattle.std.proofs.lemmas.Option.{slice_get_read}
use Rattle.job_board.specs.declared.jobs.Stage.TheVariants.{Finished}
use Rattle.job_board.specs.Senders.{with_stage}
use Rattle.job_board.proofs.BoardFacts.{finishes, finish_ok, finish_at, some_taken, change_at}
use Rattle.job_board.proofs.board.Board.finish.Goals as goal

pub overflow_sub-self : goal.overflow_sub-self
overflow_sub-self c =
    let at =
    slice_get_read c.self.inside.senders.items (vec_len c.self.inside.senders) c.args.id.sender c.in-Some.jobs.now
    (omega (arith, c.self.inside.senders.ok.0)) (c.in-Some.ensures.variant.0 refl) c.in-Some.ensures.value in
    let parts = finish_ok _ _ c.args.solved _ c.in_ok-finish.ensures.reply in
    some_taken c.self.inside.senders.items c.self.inside.waiting.jobs c.self.inside.taken c.self.inside.waiting.room
    c.args.id.sender c.args.id.number c.in-Some.jobs.now c.self.invariant at parts.0

pub invariant_of-self-2 : goal.invariant_of-self-2
invariant_of-self-2 c =
    let at =
    slice_get_read c.self.inside.senders.items (vec_len c.self.inside.senders) c.args.id.sender c.in-Some.jobs.now
    (omega (arith, c.self.inside.senders.ok.0)) (c.in-Some.ensures.variant.0 refl) c.in-Some.ensures.value in
    let parts = finish_ok _ _ c.args.solved _ c.in_ok-finish.ensures.reply in
    rw c.in_ok-finish.ensures.ok
    (finishes c.self.inside.senders.items c.args.id.sender c.args.id.number c.args.solved c.self.inside.waiting.jobs
    c.self.inside.taken c.self.inside.waiting.room c.in-Some.jobs.now c.self.invariant at parts.0 parts.1)

pub returns-clause-lawful : goal.returns-clause-lawful
returns-clause-lawful c =
    let at =
    slice_get_read c.self.inside.senders.items (vec_len c.self.inside.senders) c.args.id.sender c.in-Some.jobs.now
    (omega (arith, c.self.inside.senders.ok.0)) (c.in-Some.ensures.variant.0 refl) c.in-Some.ensures.value in
    rw (← c.self.view_is) (finish_at c.self.inside.senders.items c.args.id c.args.solved _ c.in-Some.jobs.now at c.in_ok-finish.ensures.reply)

pub returns-clause-content : goal.returns-clause-content
returns-clause-content c =
    let at =
    slice_get_read c.self.inside.senders.items (vec_len c.self.inside.senders) c.args.id.sender c.in-Some.jobs.now
    (omega (arith, c.self.inside.senders.ok.0)) (c.in-Some.ensures.variant.0 refl) c.in-Some.ensures.value in
    rw (← c.self.view_is, c.in_ok-finish.ensures.ok)
    (sym (change_at c.self.inside.senders.items c.args.id.sender c.in-Some.jobs.now (with_stage c.args.id.number (Finished c.args.solved)) at))
