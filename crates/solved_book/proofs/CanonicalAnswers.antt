-- Canonical positions and their answers.
use Rattle.std.proofs.Common.{◌≡◌, ℤ, bit_and, ap, sym, ◌∙◌, subst, arith}
use Rattle.std.proofs.lemmas.Int.{ints}
use Rattle.othello_rules.specs.declared.answer.Best.{Best}
use Rattle.othello_rules.specs.declared.discs.Side.TheVariants.{Black}
use Rattle.othello_rules.specs.declared.scoring.Scoring.{Scoring}
use Rattle.othello_rules.specs.Answer.{AnswerView, IsBest, IsScore}
use Rattle.othello_bits.specs.Pos.{PosView, discs_of, position_of, answer_of, value_of}
use Rattle.othello_bits.specs.Symmetries.{best_image, canonical, canonical_of, first_symmetry}
use Rattle.othello_bits.specs.declared.sym.Sym.{Sym}
use Rattle.othello_bits.proofs.AnswerLaws.{answer-is}
use Rattle.othello_bits.proofs.GameLaws.{value_score}
use Rattle.othello_bits.proofs.GridMeaning.{discs-apart}
use Rattle.othello_bits.proofs.ImageLaws.{answer_of-image_of, canonical_of-image_of, canonical_of-is}
use Rattle.endgame_search.proofs.BestOf.{best_of-IsBest}
use Rattle.endgame_search.proofs.WindowLemmas.{shown}
use Rattle.solved_book.specs.Order.{IsCanonical}

pub canonical_apart : (p : PosView) → IsCanonical p → bit_and p.own p.opp ≡ 0
unfolding canonical_of discs_of
canonical_apart p e = subst (λ (d : PosView). bit_and d.own d.opp ≡ 0) e (discs-apart (canonical (position_of Black p)))

pub canonical_again : (p : PosView) → IsCanonical (canonical_of p)
canonical_again p = ap canonical_of (canonical_of-is p) ∙ canonical_of-image_of (first_symmetry (position_of Black p)) p

pub answer_score : (g : Scoring) (p : PosView) → IsScore (answer_of g p).score
answer_score g p = subst IsScore (ap (λ (r : AnswerView). r.score) (sym (answer-is g p))) (value_score g p)

pub answer_best : (g : Scoring) (p : PosView) → IsBest (answer_of g p).best
answer_best g p = subst IsBest (ap (λ (r : AnswerView). r.best) (sym (answer-is g p))) (best_of-IsBest g p)

-- a score that passes through a byte
pub score_shown : (z : ℤ) → IsScore z → shown z ≡ z
score_shown z h = let a = h.low in let b = h.high in omega (arith, ints)

-- the answer of the canonical position, by the symmetry that leads to it
pub canonical_answer_is : (g : Scoring) (p : PosView) (s : Sym) (a : AnswerView) (score : ℤ) (best : Best)
    → s ≡ first_symmetry (position_of Black p) → a ≡ answer_of g p
    → score ≡ a.score → best ≡ best_image s a.best → record { score = score; best = best } ≡ answer_of g (canonical_of p)
canonical_answer_is g p s a score best es ea escore ebest =
    let there = ap (answer_of g) (canonical_of-is p) ∙ answer_of-image_of g (first_symmetry (position_of Black p)) p in
    let here : score ≡ value_of g p = escore ∙ ap (λ (r : AnswerView). r.score) (ea ∙ answer-is g p) in
    let moved : best ≡ best_image (first_symmetry (position_of Black p)) (answer_of g p).best = ebest ∙ (λ k. best_image (es k) (ea k).best) in
    (λ k. let r : AnswerView = record { score = here k; best = moved k } in r) ∙ sym there
