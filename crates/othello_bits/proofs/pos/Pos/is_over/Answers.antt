use Rattle.std.proofs.lemmas.Bool.{eqb-true}
use Rattle.othello_bits.proofs.MaskMeaning.{none-is, over_here, over_masks}
use Rattle.othello_bits.proofs.pos.Pos.is_over.Goals as goal

pub returns-then-moves-eq0-clause-meaning : goal.returns-then-moves-eq0-clause-meaning
returns-then-moves-eq0-clause-meaning c = λ s.
    let over =
    over_here c.args.self c.pass.result c.moves.result c.moves-then-moves-eq0.result c.moves.ensures.value
    c.moves-then-moves-eq0.ensures.value c.moves.ensures.squares c.moves-then-moves-eq0.ensures.squares c.pass.ensures.meaning c.pass.ensures.value s in
    (λ t. over.0 t c.if-moves-eq0.true, λ o. (over.1 o).1)

pub returns-then-moves-eq0-clause-value : goal.returns-then-moves-eq0-clause-value
returns-then-moves-eq0-clause-value c =
    let over =
    over_masks c.args.self c.pass.result c.moves.result c.moves-then-moves-eq0.result c.moves.ensures.value
    c.moves-then-moves-eq0.ensures.value c.moves.ensures.squares c.moves-then-moves-eq0.ensures.squares c.pass.ensures.meaning c.pass.ensures.value in
    (λ t. over.0 t c.if-moves-eq0.true, λ o. (over.1 o).1)

pub returns-else-moves-eq0-clause-meaning : goal.returns-else-moves-eq0-clause-meaning
returns-else-moves-eq0-clause-meaning c = λ s.
    let none = none-is s c.args.self c.moves.result c.moves.ensures.value (c.moves.ensures.squares s) in
    (λ t. absurd (c.if-moves-eq0.false (eqb-true c.moves.result 0 t)), λ o. absurd (c.if-moves-eq0.false (none.1 o.0)))
