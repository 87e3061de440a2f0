use Rattle.std.proofs.Common.{◌≡◌, ◌≢◌, ◌-◌, All, arith, length, rules, subst, take, take-take}
use Rattle.std.proofs.lemmas.List.Elements.{All-more, All-take}
use Rattle.obf_text.proofs.lines.line_len.Goals as goal

pub loop-at-preserved : goal.loop-at-preserved
loop-at-preserved c = All-more (λ x. x ≢ 10) _ _ 0 (search rules) c.loop-at.invariant (search rules)

pub returns-clause-before : goal.returns-clause-before
returns-clause-before c =
    let text = c.args.text.now in
    let all : c.loop-at.at ≡ length text = search rules in
    let none = subst (λ n. All (λ x. x ≢ 10) (take n text)) all c.loop-at.invariant in
    subst (All (λ x. x ≢ 10)) (take-take (length text - 1) (length text) text (omega arith)) (All-take (λ x. x ≢ 10) (length text - 1) _ none)
