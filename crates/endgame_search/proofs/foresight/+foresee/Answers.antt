use Rattle.std.proofs.Common.{◌+◌, ◌*◌, ◌<◌, ◌≡◌, arith, sym, subst, All}
use Rattle.std.proofs.lemmas.List.Sorted.{All-permutation}
use Rattle.endgame_search.specs.Children.{IsChildOf}
use Rattle.endgame_search.proofs.foresight.+foresee.Goals as goal

pub foresee_by_list-foresee_children-requires : goal.foresee_by_list-foresee_children-requires
foresee_by_list-foresee_children-requires g t c κs within =
    let d : 4 * c.args.plies + 1 ≡ t = c.decreases in
    let w : 4 * c.args.plies < t = omega (arith, d) in
    let each = All-permutation (IsChildOf c.args.position) _ _ c.sort_children.ensures c.add_children.ensures.each in
    (w, (within, (subst (All (IsChildOf c.args.position)) (sym c.deref.ensures.0) each, c.requires.some)))
