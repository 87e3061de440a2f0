use Rattle.std.proofs.Common.{◌≡◌, ℕ, ◌*◌, ◌+◌, ◌<◌, ◌^◌, negsuc, ◌≤ℤ◌, true, length, count_ones}
use Rattle.othello_rules.specs.Masks.{in_mask}
use Rattle.othello_bits.specs.Pos.{empties_of}
use Rattle.endgame_search.proofs.SearchedChildren.{SearchedBut}
use Rattle.endgame_search.proofs.shallow.+shallow.Given as goal

abbrev pub decreases-search_shallow : goal.decreases-search_shallow
decreases-search_shallow g l = 6 * empties_of l.position + 5

abbrev pub decreases-search_shallow_pass : goal.decreases-search_shallow_pass
decreases-search_shallow_pass g l = 6 * empties_of l.position + 4

abbrev pub decreases-search_shallow_moves : goal.decreases-search_shallow_moves
decreases-search_shallow_moves g l = 6 * empties_of l.position + 3

abbrev pub decreases-search_shallow_by_list : goal.decreases-search_shallow_by_list
decreases-search_shallow_by_list g l = 6 * empties_of l.position + 2

abbrev pub decreases-search_shallow_children : goal.decreases-search_shallow_children
decreases-search_shallow_children g l = 6 * empties_of l.position + 1

abbrev pub decreases-search_shallow_children-loop-unsearched : goal.decreases-search_shallow_children-loop-unsearched
decreases-search_shallow_children-loop-unsearched g l = count_ones l.unsearched

abbrev pub invariant-search_shallow_children-loop-unsearched : goal.invariant-search_shallow_children-loop-unsearched
invariant-search_shallow_children-loop-unsearched g l = record {
  small : l.unsearched < 2 ^ 64;
  listed : (i : ℕ) → in_mask l.unsearched i ≡ true → i < length l.children;
  searched : SearchedBut (g.T.Bounds.scoring l.table) l.children l.unsearched l.best;
  least : negsuc 64 ≤ℤ l.best;
  open_left : l.best ≤ℤ l.bound;
  grown : l.fn.best_so_far ≤ℤ l.best;
}
