use Rattle.std.proofs.Common.{◌∙◌, arith}
use Rattle.endgame_search.proofs.EmptySquares.{some_square_left}
use Rattle.endgame_search.proofs.TakenSquares.{only_one}
use Rattle.endgame_search.proofs.last_four.last_empty_square.Goals as goal

pub lowest-requires : goal.lowest-requires
lowest-requires c = some_square_left c.empty_squares.result 1 (c.empty_squares.ensures.count ∙ c.requires.one) (omega arith)

pub returns : goal.returns
returns c =
    λ q h. only_one c.empty_squares.result _ q c.empty_squares.type_inv
    (c.empty_squares.ensures.count ∙ c.requires.one) c.lowest.ensures.member (c.empty_squares.ensures.squares q h)
