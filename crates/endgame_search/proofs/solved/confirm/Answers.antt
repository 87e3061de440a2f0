use Rattle.std.proofs.Common.{◌≤ℤ◌, sym, ap, ◌∙◌}
use Rattle.std.proofs.lemmas.Int.{by_lt_z}
use Rattle.othello_rules.specs.declared.answer.Best.TheVariants.{Moves}
use Rattle.othello_bits.specs.Pos.{value_of, best_answer}
use Rattle.othello_bits.proofs.GameLaws.{value_score}
use Rattle.endgame_search.proofs.BestOf.{best_of-moves}
use Rattle.endgame_search.proofs.WindowLemmas.{shown}
use Rattle.endgame_search.proofs.solved.confirm.Goals as goal

pub best_moves-found-requires-clause-most : goal.best_moves-found-requires-clause-most
best_moves-found-requires-clause-most g c = (value_score (g.T.Bounds.scoring c.args.table.now) c.pos-position.result).high

pub solved_task-requires-clause-best : goal.solved_task-requires-clause-best
solved_task-requires-clause-best g c =
    let r = g.T.Bounds.scoring c.args.table.now in
    let v = value_of r c.pos-position.result in
    let best = c.best_moves-found.ensures in
    let k : shown c.args.claim.score ≤ℤ v = by_lt_z v (shown c.args.claim.score) (λ l. absurd (c.if-found-eq0.false (best.none l))) (λ l. l) in
    ap Moves (best.squares k)
    ∙ sym (best_of-moves r c.pos-position.result (λ z. c.if-moves-eq0.false (c.moves.ensures.value ∙ z)))
    ∙ (λ i. best_answer (sym c.requires i) (c.pos-position.ensures.value i))
