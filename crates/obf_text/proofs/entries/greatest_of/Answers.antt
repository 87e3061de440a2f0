use Rattle.std.proofs.Common.{◌≡◌, ◌∙◌, ℕ, ℤ, ◌+◌, ◌<◌, List, length, get_or, map, drop, ap, sym, rules}
use Rattle.std.specs.Int.{int_max}
use Rattle.std.specs.List.{fold}
use Rattle.std.proofs.lemmas.List.{drop_more}
use Rattle.obf_text.specs.Fields.{Field}
use Rattle.obf_text.proofs.entries.greatest_of.Goals as goal

one_more : (greatest next all : ℤ) (others : List Field) (i : ℕ) (item : Field) → i < length others → item ≡ get_or others i item
    → next ≡ int_max greatest item.1 → fold int_max greatest (map (λ f. f.1) (drop i others)) ≡ all
    → fold int_max next (map (λ f. f.1) (drop (i + 1) others)) ≡ all
one_more greatest next all others i item within at is so_far =
    ap (λ n. fold int_max n (map (λ f. f.1) (drop (i + 1) others))) (is ∙ ap (λ f. int_max greatest f.1) at)
    ∙ sym (ap (λ fs. fold int_max greatest (map (λ f. f.1) fs)) (drop_more others i item within))
    ∙ so_far

pub loop-score-preserved : goal.loop-score-preserved
loop-score-preserved c =
    one_more _ _ _ c.args.others.now c.loop-score.score-index c.loop-score-item.result c.loop-score-test.true
    c.loop-score-item.is (search rules) c.loop-score.invariant
