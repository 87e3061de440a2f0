use Rattle.std.proofs.Common.{ap, sym, ◌∙◌, subst}
use Rattle.othello_rules.specs.Answer.{AnswerView, IsBest, IsScore}
use Rattle.othello_bits.specs.Symmetries.{best_image, canonical_of}
use Rattle.endgame_search.proofs.WindowLemmas.{shown}
use Rattle.solved_book.proofs.CanonicalAnswers.{answer_best, canonical_answer_is, score_shown}
use Rattle.solved_book.proofs.book.canonical_answer.Goals as goal

pub invariant_of-result : goal.invariant_of-result
invariant_of-result c =
    let score = c.answer.invariant.0 in
    let is = canonical_answer_is c.args.solved.scoring c.args.solved.position c.args.sym c.answer-answer.result c.answer.inside.score c.best_on_image.result
    c.requires c.answer-answer.ensures (ap (λ (r : AnswerView). r.score) c.answer.view_is)
    (c.best_on_image.ensures ∙ ap (λ (r : AnswerView). best_image c.args.sym r.best) c.answer.view_is) in (
      subst IsScore (sym (score_shown c.answer.inside.score score)) score,
      subst IsBest (ap (λ (r : AnswerView). r.best) (sym is)) (answer_best c.args.solved.scoring (canonical_of c.args.solved.position)),
    )

pub returns : goal.returns
returns c =
    canonical_answer_is c.args.solved.scoring c.args.solved.position c.args.sym c.answer-answer.result (shown c.answer.inside.score) c.best_on_image.result
    c.requires c.answer-answer.ensures (score_shown c.answer.inside.score c.answer.invariant.0 ∙ ap (λ (r : AnswerView). r.score) c.answer.view_is)
    (c.best_on_image.ensures ∙ ap (λ (r : AnswerView). best_image c.args.sym r.best) c.answer.view_is)
