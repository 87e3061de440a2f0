use Rattle.std.proofs.Common.{◌≡◌, ◌∙◌, ap, arith}
use Rattle.std.proofs.lemmas.Int.{ints}
use Rattle.endgame_search.proofs.WindowLemmas.{shown}
use Rattle.solved_book.specs.Listing.{listed_squares}
use Rattle.solved_book.proofs.MaskSteps.{lists_all, lists_more, lists_none}
use Rattle.solved_book.proofs.listing.listed_squares.Goals as goal

pub loop-field-init : goal.loop-field-init
loop-field-init c = lists_none _

pub loop-field-preserved : goal.loop-field-preserved
loop-field-preserved c =
    lists_more _ c.args.listed.now c.loop-field.field-index c.field-item.result c.loop-field.squares c.with_listed-squares.result
    c.loop-field-test.true c.field-item.is c.with_listed-squares.type_inv c.with_listed-squares.ensures c.loop-field.invariant

pub returns : goal.returns
returns c =
    let s : shown c.args.score ≡ c.args.score = omega (arith, ints) in
    lists_all (shown c.args.score) c.args.listed.now c.loop-field.field-index c.loop-field.squares c.loop-field-test.false c.loop-field.invariant
    ∙ ap (λ z. listed_squares z c.args.listed.now) s
