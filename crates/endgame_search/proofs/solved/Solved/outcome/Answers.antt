use Rattle.std.proofs.Common.{◌≡◌, ◌∙◌, ap, arith}
use Rattle.std.specs.Int.{int_signum}
use Rattle.std.proofs.lemmas.Int.{ints}
use Rattle.othello_rules.specs.declared.scoring.Scoring.TheVariants.{Sign}
use Rattle.othello_rules.specs.Answer.{AnswerView}
use Rattle.othello_bits.specs.Pos.{value_of}
use Rattle.othello_bits.proofs.AnswerLaws.{answer-is}
use Rattle.othello_bits.proofs.GameLaws.{value_score}
use Rattle.endgame_search.proofs.BestOf.{sign_told}
use Rattle.endgame_search.proofs.WindowLemmas.{shown}
use Rattle.endgame_search.proofs.solved.Solved.outcome.Goals as goal

pub returns : goal.returns
returns c =
    let solved = c.args.self in
    let score = c.signum.inside.score in
    let e : score ≡ value_of solved.scoring solved.position =
    ap (λ (r : AnswerView). r.score) (c.signum.view_is ∙ c.answer.ensures ∙ answer-is solved.scoring solved.position) in
    let v = value_score solved.scoring solved.position in
    let l = v.low in
    let h = v.high in
    let s : shown score ≡ score = omega (arith, ints, l, h, e) in
    let w = value_score Sign solved.position in
    let m = w.low in
    let n = w.high in
    let o : c.signum-2.result ≡ value_of Sign solved.position = c.signum-2.ensures.value ∙ ap int_signum (s ∙ e) ∙ sign_told solved.scoring solved.position in
    let t : shown c.signum-2.result ≡ c.signum-2.result = omega (arith, ints, m, n, o) in
    t ∙ o
