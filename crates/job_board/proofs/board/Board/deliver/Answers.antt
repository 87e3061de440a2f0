use Rattle.std.proofs.Common.{vec_len, refl, ap, sym, ◌∙◌, arith}
use Rattle.std.proofs.lemmas.Option.{slice_get_read}
use Rattle.job_board.specs.Replies.{deliver_reply_in}
use Rattle.job_board.proofs.BoardFacts.{delivers, delivered}
use Rattle.job_board.proofs.board.Board.deliver.Goals as goal

pub deliver-requires : goal.deliver-requires
deliver-requires c =
    let at =
    slice_get_read c.self.inside.senders.items (vec_len c.self.inside.senders) c.args.sender c.in-Some.jobs.now
    (omega (arith, c.self.inside.senders.ok.0)) (c.in-Some.ensures.variant.0 refl) c.in-Some.ensures.value in
    let h = c.self.invariant.content c.args.sender c.in-Some.jobs.now at in
    omega (arith, h.handed, h.most)

pub invariant_of-self-2 : goal.invariant_of-self-2
invariant_of-self-2 c =
    let at =
    slice_get_read c.self.inside.senders.items (vec_len c.self.inside.senders) c.args.sender c.in-Some.jobs.now
    (omega (arith, c.self.inside.senders.ok.0)) (c.in-Some.ensures.variant.0 refl) c.in-Some.ensures.value in
    rw (c.deliver.ensures.state, c.deliver.ensures.reply)
    (delivers c.self.inside.senders.items c.self.inside.waiting.jobs c.self.inside.taken c.self.inside.waiting.room
    c.args.sender c.in-Some.jobs.now c.self.invariant at)

pub returns-clause-lawful : goal.returns-clause-lawful
returns-clause-lawful c =
    let at =
    slice_get_read c.self.inside.senders.items (vec_len c.self.inside.senders) c.args.sender c.in-Some.jobs.now
    (omega (arith, c.self.inside.senders.ok.0)) (c.in-Some.ensures.variant.0 refl) c.in-Some.ensures.value in
    rw (← c.self.view_is) (c.deliver.ensures.reply ∙ ap deliver_reply_in (sym at))

pub returns-clause-content : goal.returns-clause-content
returns-clause-content c =
    let at =
    slice_get_read c.self.inside.senders.items (vec_len c.self.inside.senders) c.args.sender c.in-Some.jobs.now
    (omega (arith, c.self.inside.senders.ok.0)) (c.in-Some.ensures.variant.0 refl) c.in-Some.ensures.value in
    rw (← c.self.view_is, c.deliver.ensures.state) (delivered c.self.inside.senders.items c.args.sender c.in-Some.jobs.now c.deliver.result at)
