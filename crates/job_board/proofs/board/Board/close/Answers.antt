use Rattle.std.proofs.Common.{Ok, vec_len, ap, sym, ◌∙◌, arith, refl}
use Rattle.std.proofs.lemmas.Option.{slice_get_read}
use Rattle.job_board.specs.Senders.{closed_state}
use Rattle.job_board.specs.Replies.{close_reply_in}
use Rattle.job_board.proofs.BoardFacts.{keeps, change_at}
use Rattle.job_board.proofs.board.Board.close.Goals as goal

pub invariant_of-self-2 : goal.invariant_of-self-2
invariant_of-self-2 c =
    let at =
    slice_get_read c.self.inside.senders.items (vec_len c.self.inside.senders) c.args.sender c.in-Some.jobs.now
    (omega (arith, c.self.inside.senders.ok.0)) (c.in-Some.ensures.variant.0 refl) c.in-Some.ensures.value in
    let h = c.self.invariant.content c.args.sender c.in-Some.jobs.now at in
    rw c.close.ensures.state
    (keeps c.self.inside.senders.items c.self.inside.waiting.jobs c.self.inside.taken c.self.inside.waiting.room
    c.args.sender c.in-Some.jobs.now (closed_state c.in-Some.jobs.now) c.self.invariant at refl
    (record { stages = h.stages; most = h.most; handed = h.handed; finished = h.finished; solved = h.solved }))

pub returns-clause-lawful : goal.returns-clause-lawful
returns-clause-lawful c =
    let at =
    slice_get_read c.self.inside.senders.items (vec_len c.self.inside.senders) c.args.sender c.in-Some.jobs.now
    (omega (arith, c.self.inside.senders.ok.0)) (c.in-Some.ensures.variant.0 refl) c.in-Some.ensures.value in
    rw (← c.self.view_is) (ap Ok c.close.ensures.was ∙ ap close_reply_in (sym at))

pub returns-clause-content : goal.returns-clause-content
returns-clause-content c =
    let at =
    slice_get_read c.self.inside.senders.items (vec_len c.self.inside.senders) c.args.sender c.in-Some.jobs.now
    (omega (arith, c.self.inside.senders.ok.0)) (c.in-Some.ensures.variant.0 refl) c.in-Some.ensures.value in
    rw (← c.self.view_is, c.close.ensures.state) (sym (change_at c.self.inside.senders.items c.args.sender c.in-Some.jobs.now closed_state at))
