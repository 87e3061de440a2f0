use Rattle.othello_bits.specs.Pos.{value_of}
use Rattle.endgame_search.proofs.Drivers.{IsBetween, gap}
use Rattle.endgame_search.proofs.alpha_beta.search_window.Given as goal

abbrev pub invariant-loop-lower : goal.invariant-loop-lower
invariant-loop-lower g l = IsBetween l.low l.high (value_of (g.T.Bounds.scoring l.table) l.position) l.lower l.upper

abbrev pub decreases-loop-lower : goal.decreases-loop-lower
decreases-loop-lower g l = gap l.lower l.upper
