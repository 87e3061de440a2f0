use Rattle.std.proofs.Common.{vec_len, refl, ◌≡◌, Some, slice_get, ap, sym, ◌∙◌, arith}
use Rattle.std.proofs.lemmas.Option.{slice_get_read}
use Rattle.job_board.specs.declared.jobs.Stage.TheVariants.{Waiting, Taken}
use Rattle.job_board.specs.Senders.{with_stage, stage_of_job}
use Rattle.job_board.specs.Replies.{give_back_reply_at}
use Rattle.job_board.proofs.BoardFacts.{gives_back, give_back_ok, some_taken, change_at}
use Rattle.job_board.proofs.board.Board.give_back.Goals as goal

pub overflow_sub-self : goal.overflow_sub-self
overflow_sub-self c =
    let at =
    slice_get_read c.self.inside.senders.items (vec_len c.self.inside.senders) c.args.id.sender c.in-Some.jobs.now
    (omega (arith, c.self.inside.senders.ok.0)) (c.in-Some.ensures.variant.0 refl) c.in-Some.ensures.value in
    let was = give_back_ok _ _ c.in_ok-give_back.ensures.reply in
    some_taken c.self.inside.senders.items c.self.inside.waiting.jobs c.self.inside.taken c.self.inside.waiting.room
    c.args.id.sender c.args.id.number c.in-Some.jobs.now c.self.invariant at was

pub push-requires : goal.push-requires
push-requires c =
    let at =
    slice_get_read c.self.inside.senders.items (vec_len c.self.inside.senders) c.args.id.sender c.in-Some.jobs.now
    (omega (arith, c.self.inside.senders.ok.0)) (c.in-Some.ensures.variant.0 refl) c.in-Some.ensures.value in
    let was : slice_get c.in-Some.jobs.now.stages c.args.id.number ≡ Some Taken = give_back_ok _ _ c.in_ok-give_back.ensures.reply in
    omega (
      arith,
      some_taken c.self.inside.senders.items c.self.inside.waiting.jobs c.self.inside.taken c.self.inside.waiting.room
          c.args.id.sender c.args.id.number c.in-Some.jobs.now c.self.invariant at was,
      c.self.invariant.has_room,
    )

pub invariant_of-self-2 : goal.invariant_of-self-2
invariant_of-self-2 c =
    let at =
    slice_get_read c.self.inside.senders.items (vec_len c.self.inside.senders) c.args.id.sender c.in-Some.jobs.now
    (omega (arith, c.self.inside.senders.ok.0)) (c.in-Some.ensures.variant.0 refl) c.in-Some.ensures.value in
    let was = give_back_ok _ _ c.in_ok-give_back.ensures.reply in
    rw c.in_ok-give_back.ensures.ok
    (gives_back c.self.inside.senders.items c.args.id c.self.inside.waiting.jobs c.push.new.self.jobs
    c.self.inside.taken c.self.inside.waiting.room c.push.new.self.room c.in-Some.jobs.now c.self.invariant c.push.ensures.jobs c.push.ensures.room at was)

pub returns-clause-lawful : goal.returns-clause-lawful
returns-clause-lawful c =
    let at =
    slice_get_read c.self.inside.senders.items (vec_len c.self.inside.senders) c.args.id.sender c.in-Some.jobs.now
    (omega (arith, c.self.inside.senders.ok.0)) (c.in-Some.ensures.variant.0 refl) c.in-Some.ensures.value in
    rw (← c.self.view_is) (c.in_ok-give_back.ensures.reply ∙ ap (λ o. give_back_reply_at (stage_of_job c.args.id.number o)) (sym at))

pub returns-clause-content : goal.returns-clause-content
returns-clause-content c =
    let at =
    slice_get_read c.self.inside.senders.items (vec_len c.self.inside.senders) c.args.id.sender c.in-Some.jobs.now
    (omega (arith, c.self.inside.senders.ok.0)) (c.in-Some.ensures.variant.0 refl) c.in-Some.ensures.value in
    rw (← c.self.view_is, c.in_ok-give_back.ensures.ok)
    (sym (change_at c.self.inside.senders.items c.args.id.sender c.in-Some.jobs.now (with_stage c.args.id.number Waiting) at))
