use Rattle.std.proofs.Common.{◌≡◌, ◌∙◌, sym, subst, arith}
use Rattle.std.proofs.lemmas.Int.{ints}
use Rattle.othello_rules.specs.Answer.{IsBest}
use Rattle.othello_bits.specs.Pos.{value_of}
use Rattle.othello_bits.proofs.GameLaws.{value_score}
use Rattle.endgame_search.proofs.WindowLemmas.{shown, exact}
use Rattle.endgame_search.proofs.BestOf.{best_of-IsBest, answer_told}
use Rattle.endgame_search.proofs.solved.solved_task.Goals as goal

pub store_if_deep-requires-clause-fail_soft : goal.store_if_deep-requires-clause-fail_soft
store_if_deep-requires-clause-fail_soft g c =
    let s : shown c.args.score ≡ c.args.score = omega (arith, ints) in
    exact _ _ _ _ (value_score _ _) (s ∙ c.requires.value ∙ (λ k. value_of (c.requires.scoring k) (sym c.pos.ensures.value k)))

pub invariant_of-result : goal.invariant_of-result
invariant_of-result g c =
    let v = value_score c.args.task.scoring c.args.task.position in
    let l = v.low in
    let h = v.high in
    let e = c.requires.value in (
      record { low = omega (arith, ints, l, h, e); high = omega (arith, ints, l, h, e) },
      subst IsBest (sym c.requires.best) (best_of-IsBest _ _),
    )

pub invariant_of-result-2 : goal.invariant_of-result-2
invariant_of-result-2 g c =
    let s : shown c.args.score ≡ c.args.score = omega (arith, ints) in
    answer_told c.args.task.scoring c.scoring.result c.args.task.position c.pos-2.result _ _ (sym c.scoring.ensures)
    (sym c.pos-2.ensures.value) (s ∙ c.requires.value) c.requires.best
