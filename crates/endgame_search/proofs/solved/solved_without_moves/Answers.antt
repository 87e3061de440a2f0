use Rattle.std.proofs.Common.{◌≡◌, sym, ap, ◌∙◌}
use Rattle.std.proofs.lemmas.Bool.{both_ways}
use Rattle.othello_bits.specs.Pos.{moves_of, best_answer}
use Rattle.endgame_search.proofs.BestOf.{best_of-pass, best_of-over}
use Rattle.endgame_search.proofs.solved.solved_without_moves.Goals.{then-is_over, else-is_over}
use Rattle.endgame_search.proofs.solved.solved_without_moves.Goals as goal

pub solved_task-requires-clause-best : goal.solved_task-requires-clause-best
solved_task-requires-clause-best g c =
    let r = c.args.task.scoring in
    let p = c.pos-position.ensures.value in
    elim c.if-is_over.branch [
      | then-is_over w ↦
          let over = c.is_over.ensures.value.0 w.if-is_over.true in
          w.best-is ∙ sym (best_of-over r c.pos-position.result over.0 over.1) ∙ ap (best_answer r) p
      | else-is_over w ↦
          let none : moves_of c.pos-position.result ≡ 0 = ap moves_of p ∙ c.requires.none in
          w.best-is
          ∙ sym (best_of-pass r c.pos-position.result none (λ over. both_ways c.is_over.result w.if-is_over.false (c.is_over.ensures.value.1 (none, over))))
          ∙ ap (best_answer r) p
    ]
