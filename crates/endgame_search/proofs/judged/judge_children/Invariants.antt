use Rattle.endgame_search.specs.Children.{AreChildrenOf}
use Rattle.endgame_search.proofs.judged.judge_children.Given as goal

abbrev pub invariant-loop-child : goal.invariant-loop-child
invariant-loop-child g l = AreChildrenOf l.fn.position l.children
