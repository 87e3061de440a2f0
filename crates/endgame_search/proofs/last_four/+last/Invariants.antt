use Rattle.std.proofs.Common.{◌*◌, ◌+◌, negsuc, ◌≤ℤ◌, count_ones}
use Rattle.othello_bits.specs.Pos.{empties_of, moves_of}
use Rattle.endgame_search.proofs.MovesInOrderLemmas.{IsTriedUpTo, passing}
use Rattle.endgame_search.proofs.last_four.+last.Given as goal

abbrev pub decreases-search_after : goal.decreases-search_after
decreases-search_after g l = 4 * empties_of l.position + 3

-- a pass is followed by a move
abbrev pub decreases-search_in_order : goal.decreases-search_in_order
decreases-search_in_order g l = 4 * empties_of l.position + passing (moves_of l.position)

abbrev pub decreases-search_pass_in_order : goal.decreases-search_pass_in_order
decreases-search_pass_in_order g l = 4 * empties_of l.position + 1

abbrev pub invariant-search_in_order-loop-position : goal.invariant-search_in_order-loop-position
invariant-search_in_order-loop-position g l = record {
  tried : IsTriedUpTo (g.T.Bounds.scoring l.table) l.position l.tried l.best;
  least : negsuc 64 ≤ℤ l.best;
  open_left : l.best ≤ℤ l.bound;
}

abbrev pub decreases-search_in_order-loop-position : goal.decreases-search_in_order-loop-position
decreases-search_in_order-loop-position g l = count_ones l.tried.rest
