use Rattle.std.proofs.Common.{◌+◌, ◌*◌, ◌<◌, ◌≡◌, arith, sym, subst, All}
use Rattle.std.proofs.lemmas.List.Sorted.{All-permutation}
use Rattle.endgame_search.specs.Children.{IsChildOf}
use Rattle.endgame_search.proofs.foresight.+foresee_together.Goals as goal

pub foresee_together-foresee_shared_children-requires : goal.foresee_together-foresee_shared_children-requires
foresee_together-foresee_shared_children-requires g t c κs within =
    let d : 5 * c.args.plies + 4 ≡ t = c.decreases in
    let w : 5 * c.args.plies + 3 < t = omega (arith, d) in
    let each = All-permutation (IsChildOf c.args.position) _ _ c.sort_children.ensures c.add_children.ensures.each in
    let listed = subst (All (IsChildOf c.args.position)) (sym c.deref.ensures.0) each in
    let some : 0 < c.args.plies = omega (arith, c.if-plies-lt-FEWEST_PLIES_TOGETHER.false) in
    (w, (within, (listed, some)))
