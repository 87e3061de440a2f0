use Rattle.std.proofs.Common.{arith}
use Rattle.endgame_search.proofs.Moves.{children_judged}
use Rattle.endgame_search.proofs.judged.judge_children.Goals as goal

pub loop-child-preserved : goal.loop-child-preserved
loop-child-preserved g c =
    children_judged c.args.position c.loop-child.children c.loop-child.child-index c.child-item.result c.judged.result
    (omega (arith, c.loop-child-test.true, c.loop-child.auto.children)) c.judged.ensures c.loop-child.invariant
