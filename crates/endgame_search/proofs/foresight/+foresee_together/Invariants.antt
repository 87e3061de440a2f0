use Rattle.std.proofs.Common.{◌*◌, ◌+◌}
use Rattle.endgame_search.proofs.foresight.+foresee_together.Given as goal

abbrev pub decreases-foresee_together : goal.decreases-foresee_together
decreases-foresee_together g l = 5 * l.plies + 4

abbrev pub decreases-foresee_shared_children : goal.decreases-foresee_shared_children
decreases-foresee_shared_children g l = 5 * l.plies + 3

abbrev pub decreases-best_noted : goal.decreases-best_noted
decreases-best_noted g l = 5 * l.plies + 2

abbrev pub decreases-noted_worth : goal.decreases-noted_worth
decreases-noted_worth g l = 5 * l.plies + 1

abbrev pub decreases-foresee_move : goal.decreases-foresee_move
decreases-foresee_move g l = 5 * l.plies
