use Rattle.std.proofs.Common.{◌≡◌, ℕ, ◌*◌, ◌+◌, ◌<◌, ◌^◌, negsuc, neg_ℤ, ◌≤ℤ◌, true, take, length, All, count_ones}
use Rattle.othello_rules.specs.Masks.{in_mask}
use Rattle.othello_bits.specs.Pos.{empties_of, value_of}
use Rattle.endgame_search.specs.declared.move_order.Child.{Child}
use Rattle.endgame_search.proofs.SearchedChildren.{SearchedBut}
use Rattle.endgame_search.proofs.alpha_beta.+search.Given as goal

abbrev pub decreases-search : goal.decreases-search
decreases-search g l = 8 * empties_of l.position + 7

abbrev pub decreases-search_pass : goal.decreases-search_pass
decreases-search_pass g l = 8 * empties_of l.position + 6

abbrev pub decreases-search_moves : goal.decreases-search_moves
decreases-search_moves g l = 8 * empties_of l.position + 5

abbrev pub decreases-search_by_list : goal.decreases-search_by_list
decreases-search_by_list g l = 8 * empties_of l.position + 4

abbrev pub decreases-search_by_mobility : goal.decreases-search_by_mobility
decreases-search_by_mobility g l = 8 * empties_of l.position + 3

abbrev pub decreases-search_by_worth : goal.decreases-search_by_worth
decreases-search_by_worth g l = 8 * empties_of l.position + 3

abbrev pub decreases-search_children : goal.decreases-search_children
decreases-search_children g l = 8 * empties_of l.position + 2

abbrev pub invariant-search_children-loop-child : goal.invariant-search_children-loop-child
invariant-search_children-loop-child g l = record {
  searched : All (λ (c : Child). neg_ℤ (value_of (g.T.Bounds.scoring l.table) c.position) ≤ℤ l.best) (take l.child-index l.children);
  least : negsuc 64 ≤ℤ l.best;
  open_left : l.best ≤ℤ l.bound;
  grown : l.fn.best_so_far ≤ℤ l.best;
}

abbrev pub decreases-search_shared_children : goal.decreases-search_shared_children
decreases-search_shared_children g l = 8 * empties_of l.position + 2

abbrev pub decreases-search_shared_children-loop-unsearched : goal.decreases-search_shared_children-loop-unsearched
decreases-search_shared_children-loop-unsearched g l = count_ones l.unsearched

abbrev pub invariant-search_shared_children-loop-unsearched : goal.invariant-search_shared_children-loop-unsearched
invariant-search_shared_children-loop-unsearched g l = record {
  small : l.unsearched < 2 ^ 64;
  listed : (i : ℕ) → in_mask l.unsearched i ≡ true → i < length l.children;
  searched : SearchedBut (g.T.Bounds.scoring l.table) l.children l.unsearched l.best;
  least : negsuc 64 ≤ℤ l.best;
  open_left : l.best ≤ℤ l.bound;
}
