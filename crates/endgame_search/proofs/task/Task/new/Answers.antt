use Rattle.std.proofs.Common.{refl}
use Rattle.std.proofs.Math.Nat.{le_trans, min-le_right}
use Rattle.endgame_search.proofs.task.Task.new.Goals as goal

pub invariant_of-result : goal.invariant_of-result
invariant_of-result c =
    le_trans (rw (c.empties-empties.ensures.value, c.min.ensures) at c.if-empties-min.true) (min-le_right c.args.limit 60)

pub returns-then-empties-min-clause-when : goal.returns-then-empties-min-clause-when
returns-then-empties-min-clause-when c =
    (λ _. rw (c.empties-empties.ensures.value, c.min.ensures) at c.if-empties-min.true, λ _. refl)
