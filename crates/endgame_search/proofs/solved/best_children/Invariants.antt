use Rattle.std.proofs.Common.{take}
use Rattle.endgame_search.proofs.BestMoveLemmas.{HoldsBest}
use Rattle.endgame_search.proofs.solved.best_children.Given as goal

abbrev pub invariant-loop-child : goal.invariant-loop-child
invariant-loop-child g l = HoldsBest (g.T.Bounds.scoring l.table) l.fn.position l.fn.low l.fn.high (take l.child-index l.children) l.score l.squares
