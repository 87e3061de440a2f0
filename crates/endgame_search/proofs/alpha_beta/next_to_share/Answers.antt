use Rattle.std.proofs.Common.{arith}
use Rattle.endgame_search.proofs.TakenSquares.{on_board, one_less}
use Rattle.endgame_search.proofs.alpha_beta.next_to_share.Goals as goal

pub loop-rest-smaller : goal.loop-rest-smaller
loop-rest-smaller g c =
    let small = c.loop-rest.invariant.small in
    let member = c.lowest-index.ensures.member in
    let k = one_less _ _ _ member c.without-rest.ensures small c.without-rest.type_inv (on_board _ _ small member) in
    omega (arith, k)
