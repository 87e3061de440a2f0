use Rattle.std.proofs.Common.{◌*◌, ◌+◌}
use Rattle.endgame_search.proofs.foresight.+foresee.Given as goal

abbrev pub decreases-foresee : goal.decreases-foresee
decreases-foresee g l = 4 * l.plies + 3

abbrev pub decreases-foresee_moves : goal.decreases-foresee_moves
decreases-foresee_moves g l = 4 * l.plies + 2

abbrev pub decreases-foresee_by_list : goal.decreases-foresee_by_list
decreases-foresee_by_list g l = 4 * l.plies + 1

abbrev pub decreases-foresee_children : goal.decreases-foresee_children
decreases-foresee_children g l = 4 * l.plies
