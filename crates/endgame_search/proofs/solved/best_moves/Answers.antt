use Rattle.std.proofs.Common.{length, sym, ap, ◌∙◌, subst}
use Rattle.endgame_search.specs.Children.{AreChildrenOf}
use Rattle.endgame_search.proofs.Moves.{judged_sorted}
use Rattle.endgame_search.proofs.solved.best_moves.Goals as goal

pub best_children-requires-clause-children : goal.best_children-requires-clause-children
best_children-requires-clause-children g c =
    subst (AreChildrenOf c.args.position) (sym c.deref.ensures.0)
    (judged_sorted c.args.position _ _ c.judge_children.new.children _
    (sym (c.judge_children.auto.children ∙ ap length c.deref_mut.ensures.value)) c.sort_children.ensures c.judge_children.ensures)
