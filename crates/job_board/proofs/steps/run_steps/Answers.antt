use Rattle.std.proofs.Common.{◌≡◌, ◌+◌, [], ◌∷◌, ◌++◌, take, sym, ap, ◌∙◌, subst, arith}
use Rattle.std.proofs.lemmas.List.{take_more}
use Rattle.job_board.specs.Senders.{BoardView}
use Rattle.job_board.specs.Steps.{IsLawful, after}
use Rattle.job_board.proofs.HistoryAppends.{AreLawful-push, after_all-push}
use Rattle.job_board.proofs.steps.run_steps.Goals as goal
use Rattle.job_board.proofs.steps.run_steps.Goals.{in-Submit, in-Take, in-Finish, in-GiveBack, in-Deliver, in-Close}

-- the reply of the step is lawful, and the view of the board is the one after the step
pub step_holds : (c : goal.After-push_reserved)
    → IsLawful c.loop-step.board c.step-item.result c.match-step.reply × (c.match-step.board ≡ after c.loop-step.board c.step-item.result c.match-step.reply)
step_holds c = elim c.match-step.branch [
  | in-Submit w ↦ rw (w.in-Submit.is, w.board-is, w.reply-is) (w.submit.ensures.lawful, w.submit.ensures.content)
  | in-Take w ↦ rw (w.in-Take.is, w.board-is, w.reply-is) (w.take.ensures.lawful, w.take.ensures.content)
  | in-Finish w ↦ rw (w.in-Finish.is, w.board-is, w.reply-is) (w.finish.ensures.lawful, w.finish.ensures.content)
  | in-GiveBack w ↦ rw (w.in-GiveBack.is, w.board-is, w.reply-is) (w.give_back.ensures.lawful, w.give_back.ensures.content)
  | in-Deliver w ↦ rw (w.in-Deliver.is, w.board-is, w.reply-is) (w.deliver.ensures.lawful, w.deliver.ensures.content)
  | in-Close w ↦ rw (w.in-Close.is, w.board-is, w.reply-is) (w.close.ensures.lawful, w.close.ensures.content)
]

pub loop-step-preserved : goal.loop-step-preserved
loop-step-preserved c =
    let inv = c.loop-step.invariant in
    let ss = take c.loop-step.step-index c.args.steps.now in
    let e : take (c.loop-step.step-index + 1) c.args.steps.now ≡ ss ++ c.step-item.result ∷ [] =
    take_more c.args.steps.now c.loop-step.step-index c.step-item.result c.loop-step-test.true ∙ ap (λ x. ss ++ x ∷ []) (sym c.step-item.is) in
    let P : BoardView → Type 0 = λ b. IsLawful b c.step-item.result c.match-step.reply in
    let one = step_holds c in
    record {
      room = omega (arith, inv.room, c.push_reserved.ensures.capacity);
      count = omega (arith, inv.count, c.push_reserved.ensures.len);
      lawful =
          rw (e, c.push_reserved.ensures.items)
          (AreLawful-push c.args.board.now ss c.loop-step.replies.items c.step-item.result c.match-step.reply inv.lawful (subst P inv.content one.0));
      content =
          rw (e, c.push_reserved.ensures.items)
          (one.1 ∙ (ap (λ b. after b c.step-item.result c.match-step.reply) inv.content
          ∙ sym (after_all-push c.args.board.now ss c.loop-step.replies.items c.step-item.result c.match-step.reply inv.lawful)));
    }
