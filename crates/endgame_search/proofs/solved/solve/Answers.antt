use Rattle.std.proofs.Common.{◌≡◌, ◌≤ℤ◌, sym, ap, ◌∙◌, arith}
use Rattle.std.proofs.lemmas.Int.{ints}
use Rattle.othello_rules.specs.declared.answer.Best.TheVariants.{Moves}
use Rattle.othello_bits.specs.Pos.{value_of, best_answer}
use Rattle.othello_bits.proofs.GameLaws.{value_score}
use Rattle.endgame_search.proofs.BestOf.{best_of-moves}
use Rattle.endgame_search.proofs.WindowLemmas.{shown, score_same}
use Rattle.endgame_search.proofs.solved.solve.Goals.{then-low-guess, else-low-guess}
use Rattle.endgame_search.proofs.solved.solve.Goals as goal

pub best_moves-best-requires-clause-high : goal.best_moves-best-requires-clause-high
best_moves-best-requires-clause-high g c =
    let low = c.search_window-low.ensures in
    let s = score_same c.search_window-low.result low.least low.most in
    elim c.if-low-guess.branch [
      | then-low-guess w ↦
          let r = w.high-high.ensures.ordered in
          let v = w.high-high.ensures.value in
          let a = r.least in
          let b = r.ordered in
          let m = r.most in
          record { low = omega (arith, ints, w.high-is, v, a, b, m); high = omega (arith, ints, w.high-is, v, a, b, m) }
      | else-low-guess w ↦
          let l = low.least in
          let m = low.most in
          record { low = omega (arith, ints, w.high-is, l, m); high = omega (arith, ints, w.high-is, l, m) }
    ]

pub best_moves-best-requires-clause-ordered : goal.best_moves-best-requires-clause-ordered
best_moves-best-requires-clause-ordered g c =
    let low = c.search_window-low.ensures in
    let l = low.least in
    let h = low.most in
    let s = score_same c.search_window-low.result l h in
    let k : c.search_window-low.result ≤ℤ value_of (g.T.Bounds.scoring c.args.table.now) c.pos-position.result = low.above (omega (arith, ints)) in
    elim c.if-low-guess.branch [
      | then-low-guess w ↦
          let r = w.high-high.ensures.ordered in
          let v = w.high-high.ensures.value in
          let a = r.least in
          let b = r.ordered in
          let m = r.most in
          let p = c.possible_scores-possible.ensures.1 in
          omega (arith, ints, w.high-is, v, a, b, m, p, k, l, h)
      | else-low-guess w ↦ omega (arith, ints, w.high-is, l, h)
    ]

pub best_moves-best-requires-clause-most : goal.best_moves-best-requires-clause-most
best_moves-best-requires-clause-most g c =
    let v = value_score (g.T.Bounds.scoring c.args.table.now) c.pos-position.result in
    let m = v.high in
    let low = c.search_window-low.ensures in
    let s = score_same c.search_window-low.result low.least low.most in
    elim c.if-low-guess.branch [
      | then-low-guess w ↦ omega (arith, ints, w.high-is)
      | else-low-guess w ↦ let k = low.below (omega (arith, ints, w.if-low-guess.false)) in omega (arith, ints, w.high-is)
    ]

pub solved_task-requires-clause-value : goal.solved_task-requires-clause-value
solved_task-requires-clause-value g c =
    let r = g.T.Bounds.scoring c.args.table.now in
    let low = c.search_window-low.ensures in
    let l = low.least in
    let s = score_same c.search_window-low.result l low.most in
    let k : c.search_window-low.result ≤ℤ value_of r c.pos-position.result = low.above (omega (arith, ints)) in
    let e : c.best_moves-best.result.score ≡ value_of r c.pos-position.result = c.best_moves-best.ensures.value (omega (arith, ints)) in
    let v = value_score r c.pos-position.result in
    let a = v.low in
    let b = v.high in
    let f : shown c.best_moves-best.result.score ≡ c.best_moves-best.result.score = omega (arith, ints, e, a, b) in
    f ∙ e ∙ (λ i. value_of (sym c.requires i) (c.pos-position.ensures.value i))

pub solved_task-requires-clause-best : goal.solved_task-requires-clause-best
solved_task-requires-clause-best g c =
    let r = g.T.Bounds.scoring c.args.table.now in
    let low = c.search_window-low.ensures in
    let s = score_same c.search_window-low.result low.least low.most in
    let k : c.search_window-low.result ≤ℤ value_of r c.pos-position.result = low.above (let l = low.least in omega (arith, ints)) in
    ap Moves (c.best_moves-best.ensures.squares (omega (arith, ints)))
    ∙ sym (best_of-moves r c.pos-position.result (λ z. c.if-moves-eq0.false (c.moves.ensures.value ∙ z)))
    ∙ (λ i. best_answer (sym c.requires i) (c.pos-position.ensures.value i))
