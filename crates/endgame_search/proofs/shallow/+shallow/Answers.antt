-- Goals that a search would prove are answered too: the search takes longer.
use Rattle.std.proofs.Common.{arith, rules, refl, pos, negsuc, ◌≡◌, ◌≤◌, ◌<◌, ◌+◌, ◌*◌, ◌-ℤ◌, get_or, true, sym, ap, ◌∙◌, subst}
use Rattle.std.proofs.lemmas.Int.{ints}
use Rattle.othello_rules.specs.Masks.{in_mask}
use Rattle.othello_bits.specs.Pos.{moves_of, pass_of, empties_of, final_of, value_of, HasNoMove}
use Rattle.othello_bits.proofs.GameLaws.{value_score, value-over}
use Rattle.endgame_search.specs.Children.{IsChildOf, UnlistedAreAtMost}
use Rattle.endgame_search.specs.Windows.{IsNullWindowScore}
use Rattle.endgame_search.proofs.Bounds.{bound_same, shown_bound, other_bound, same_fail_soft, turned_above, cut_above}
use Rattle.endgame_search.proofs.Bounds.{score_open, score_covers, best_grows, best_covers, best_open, best_least}
use Rattle.endgame_search.proofs.Bounds.{none_above, before_first, after_first}
use Rattle.endgame_search.proofs.EmptySquares.{few_moves, some_empty}
use Rattle.endgame_search.proofs.Moves.{child_worth, child_empties, passed_worth, passed_empties, value_at_most, unlisted_after_first, none_unlisted}
use Rattle.endgame_search.proofs.SearchedChildren.{at_left, none_searched, one_searched, all_searched_of}
use Rattle.endgame_search.proofs.TakenSquares.{was_there, on_board, one_less}
use Rattle.endgame_search.proofs.WindowLemmas.{shown, shown_same, exact, at_least_as, unshown}
use Rattle.endgame_search.proofs.shallow.+shallow.Goals as goal

pub search_shallow-search_shallow_moves-requires : goal.search_shallow-search_shallow_moves-requires
search_shallow-search_shallow_moves-requires g t c κs within =
    let d : 6 * empties_of c.args.position + 5 ≡ t = c.decreases in
    let w : 6 * empties_of c.args.position + 3 < t = omega (arith, d) in
    (w, (within, (c.requires.moves, (c.if-moves-ne0.true, (c.requires.empties, (c.requires.shallow, shown_bound c.args.bound c.requires.bound))))))

pub search_shallow-search_shallow_pass-requires : goal.search_shallow-search_shallow_pass-requires
search_shallow-search_shallow_pass-requires g t c κs within =
    let d : 6 * empties_of c.args.position + 5 ≡ t = c.decreases in
    let w : 6 * empties_of c.args.position + 4 < t = omega (arith, d) in
    let few : empties_of c.args.position ≤ 7 = subst (λ n. n ≤ 7) c.requires.empties c.requires.shallow in
    (w, (within, (sym c.requires.moves ∙ c.if-moves-ne0.false, (few, shown_bound c.args.bound c.requires.bound))))

pub search_shallow-returns-then-moves-ne0 : goal.search_shallow-returns-then-moves-ne0
search_shallow-returns-then-moves-ne0 g t c = same_fail_soft c.args.bound c.requires.bound _ _ c.search_shallow_moves.ensures

pub search_shallow-returns-else-moves-ne0 : goal.search_shallow-returns-else-moves-ne0
search_shallow-returns-else-moves-ne0 g t c = same_fail_soft c.args.bound c.requires.bound _ _ c.search_shallow_pass.ensures

pub search_shallow_pass-returns-then-replies-eq0 : goal.search_shallow_pass-returns-then-replies-eq0
search_shallow_pass-returns-then-replies-eq0 g t c =
    let over : HasNoMove (pass_of c.args.position) =
    ap moves_of (sym c.pass-passed.ensures.value) ∙ sym c.moves-replies.ensures.value ∙ c.if-replies-eq0.true in
    let r = g.T.Bounds.scoring c.args.table.now in
    let s = value_score r c.args.position in
    let e : c.final_score.result ≡ value_of r c.args.position =
    c.final_score.ensures.value ∙ ap (λ h. final_of h c.args.position) c.scoring.ensures ∙ sym (value-over r c.args.position (c.requires.none, over)) in
    let l = s.low in
    let m = s.high in
    let f : shown c.final_score.result ≡ c.final_score.result = omega (arith, ints, e, l, m) in
    exact _ _ _ _ s (f ∙ e)

pub search_shallow_pass-probe_cutoff-requires : goal.search_shallow_pass-probe_cutoff-requires
search_shallow_pass-probe_cutoff-requires g t c = shown_bound c.args.bound c.requires.bound

pub search_shallow_pass-returns-in-Some : goal.search_shallow_pass-returns-in-Some
search_shallow_pass-returns-in-Some g t c = same_fail_soft c.args.bound c.requires.bound _ _ c.in-Some.ensures

pub search_shallow_pass-search_shallow_moves-requires : goal.search_shallow_pass-search_shallow_moves-requires
search_shallow_pass-search_shallow_moves-requires g t c κs within =
    let d : 6 * empties_of c.args.position + 4 ≡ t = c.decreases in
    let e = passed_empties c.args.position c.pass-passed.result c.pass-passed.ensures.value in
    let w : 6 * empties_of c.pass-passed.result + 3 < t = omega (arith, d, e) in
    let is : c.empties.result ≡ empties_of c.pass-passed.result = c.empties.ensures.value ∙ sym e in
    let few : c.empties.result ≤ 7 = subst (λ n. n ≤ 7) (sym c.empties.ensures.value) c.requires.shallow in
    (w, (within, (c.moves-replies.ensures.value, (c.if-replies-eq0.false, (is, (few, other_bound c.args.bound c.requires.bound))))))

pub search_shallow_pass-returns : goal.search_shallow_pass-returns
search_shallow_pass-returns g t c =
    let w =
    passed_worth (g.T.Bounds.scoring c.args.table.now)
    c.args.position c.pass-passed.result c.moves-replies.result c.requires.none c.pass-passed.ensures.value
    c.moves-replies.ensures.value c.if-replies-eq0.false in
    subst (λ z. IsNullWindowScore c.args.bound z (shown (pos 0 -ℤ shown c.search_shallow_moves.result))) (sym w)
    (turned_above c.args.bound _ _ c.requires.bound c.search_shallow_moves.ensures)

pub search_shallow_moves-search_in_order-requires : goal.search_shallow_moves-search_in_order-requires
search_shallow_moves-search_in_order-requires g t c =
    record {
      squares = λ q m. subst (λ n. in_mask n q ≡ true) (sym c.requires.moves) m;
      empties = c.requires.empties;
      bound = shown_bound c.args.bound c.requires.bound;
    }

pub search_shallow_moves-search_shallow_by_list-requires : goal.search_shallow_moves-search_shallow_by_list-requires
search_shallow_moves-search_shallow_by_list-requires g t c κs within =
    let d : 6 * empties_of c.args.position + 3 ≡ t = c.decreases in
    let w : 6 * empties_of c.args.position + 2 < t = omega (arith, d) in
    let few : empties_of c.args.position ≤ 7 = subst (λ n. n ≤ 7) c.requires.empties c.requires.shallow in
    (w, (within, (c.requires.moves, (c.requires.some, (few, shown_bound c.args.bound c.requires.bound)))))

pub search_shallow_by_list-probe_cutoff-requires : goal.search_shallow_by_list-probe_cutoff-requires
search_shallow_by_list-probe_cutoff-requires g t c = shown_bound c.args.bound c.requires.bound

pub search_shallow_by_list-returns-in-Some : goal.search_shallow_by_list-returns-in-Some
search_shallow_by_list-returns-in-Some g t c = same_fail_soft c.args.bound c.requires.bound _ _ c.in-Some.ensures

pub search_shallow_by_list-add_until_no_replies-requires : goal.search_shallow_by_list-add_until_no_replies-requires
search_shallow_by_list-add_until_no_replies-requires g t c =
    let room = few_moves c.args.position c.args.moves c.requires.moves c.ranges.moves.fits in
    (search rules, (c.requires.moves, (omega (arith, room, c.requires.shallow), c.new-children.ensures)))

pub search_shallow_by_list-search_shallow_children-requires : goal.search_shallow_by_list-search_shallow_children-requires
search_shallow_by_list-search_shallow_children-requires g t c κs within =
    let r = g.T.Bounds.scoring c.args.table.now in
    let d : 6 * empties_of c.args.position + 2 ≡ t = c.decreases in
    let w : 6 * empties_of c.args.position + 1 < t = omega (arith, d) in
    let unlisted = none_unlisted r c.args.position _ (negsuc 64) (c.in_default-add_until_no_replies.ensures.all refl) in (
      w,
      (
        within,
        (
          subst (UnlistedAreAtMost r c.args.position (negsuc 64)) (sym c.deref.ensures.0) unlisted,
          (
            omega (arith, ints),
            (
              before_first c.args.bound c.requires.bound,
              (λ z. c.requires.some (c.requires.moves ∙ z), (c.requires.shallow, (c.deref.ensures.1, shown_bound c.args.bound c.requires.bound))),
            ),
          ),
        ),
      ),
    )

pub search_shallow_by_list-returns-in_default-add_until_no_replies : goal.search_shallow_by_list-returns-in_default-add_until_no_replies
search_shallow_by_list-returns-in_default-add_until_no_replies g t c = same_fail_soft c.args.bound c.requires.bound _ _ c.search_shallow_children.ensures

pub search_shallow_by_list-search_shallow_pass-score-requires : goal.search_shallow_by_list-search_shallow_pass-score-requires
search_shallow_by_list-search_shallow_pass-score-requires g t c κs within =
    let split = c.in-Some-add_until_no_replies.ensures.split in
    let d : 6 * empties_of c.args.position + 2 ≡ t = c.decreases in
    let e = child_empties c.args.position c.in-Some-add_until_no_replies.split.child split.child in
    let w : 6 * empties_of c.in-Some-add_until_no_replies.split.child.position + 4 < t = omega (arith, d, e) in
    let few : empties_of c.in-Some-add_until_no_replies.split.child.position ≤ 7 = omega (arith, e, c.requires.shallow) in
    (w, (within, (sym split.child.replies ∙ split.no_replies, (few, other_bound c.args.bound c.requires.bound))))

pub search_shallow_by_list-returns-then-score-bound : goal.search_shallow_by_list-returns-then-score-bound
search_shallow_by_list-returns-then-score-bound g t c =
    cut_above c.args.bound _ _ (shown (pos 0 -ℤ shown c.search_shallow_pass-score.result)) c.requires.bound
    (turned_above c.args.bound _ _ c.requires.bound c.search_shallow_pass-score.ensures)
    (child_worth (g.T.Bounds.scoring c.args.table.now)
    c.args.position c.in-Some-add_until_no_replies.split.child c.in-Some-add_until_no_replies.ensures.split.child) c.if-score-bound.true

pub search_shallow_by_list-add_children-requires : goal.search_shallow_by_list-add_children-requires
search_shallow_by_list-add_children-requires g t c = (
  search rules,
  (c.in-Some-add_until_no_replies.ensures.split.rest, (c.in-Some-add_until_no_replies.ensures.room, c.in-Some-add_until_no_replies.ensures.split.each)),
)

pub search_shallow_by_list-search_shallow_children-requires-2 : goal.search_shallow_by_list-search_shallow_children-requires-2
search_shallow_by_list-search_shallow_children-requires-2 g t c κs within =
    let r = g.T.Bounds.scoring c.args.table.now in
    let split = c.in-Some-add_until_no_replies.ensures.split in
    let above = child_worth r c.args.position c.in-Some-add_until_no_replies.split.child split.child in
    let d : 6 * empties_of c.args.position + 2 ≡ t = c.decreases in
    let w : 6 * empties_of c.args.position + 1 < t = omega (arith, d) in
    let s = shown (pos 0 -ℤ shown c.search_shallow_pass-score.result) in
    let p = turned_above c.args.bound _ _ c.requires.bound c.search_shallow_pass-score.ensures in
    let covered = score_covers c.args.bound _ _ s c.requires.bound p above c.if-score-bound.false in
    let unlisted =
    unlisted_after_first r c.args.position c.in-Some-add_until_no_replies.split _ _ _ split covered
    c.add_children.ensures.each c.add_children.ensures.every in (
      w,
      (
        within,
        (
          subst (UnlistedAreAtMost r c.args.position s) (sym c.deref-2.ensures.0) unlisted,
          (
            after_first _ p.least,
            (
              score_open c.args.bound _ _ s c.requires.bound p above c.if-score-bound.false,
              (λ z. c.requires.some (c.requires.moves ∙ z), (c.requires.shallow, (c.deref-2.ensures.1, shown_bound c.args.bound c.requires.bound))),
            ),
          ),
        ),
      ),
    )

pub search_shallow_by_list-returns : goal.search_shallow_by_list-returns
search_shallow_by_list-returns g t c = same_fail_soft c.args.bound c.requires.bound _ _ c.search_shallow_children-2.ensures

pub search_shallow_children-overflow_sub-empties : goal.search_shallow_children-overflow_sub-empties
search_shallow_children-overflow_sub-empties g t c =
    subst (λ n. 1 ≤ n) (sym c.empties-empties.ensures.value) (some_empty c.args.position c.requires.some)

pub search_shallow_children-loop-unsearched-init : goal.search_shallow_children-loop-unsearched-init
search_shallow_children-loop-unsearched-init g t c =
    let all = c.indices_of-unsearched.ensures in
    let l = c.requires.least in
    let m = c.requires.open in
    let n = c.requires.bound.1 in
    let same : shown c.args.best_so_far ≡ c.args.best_so_far = shown_same c.args.best_so_far l (omega (arith, ints)) in
    let bound : shown c.args.bound ≡ c.args.bound = bound_same c.args.bound c.requires.bound in
    record {
      small = c.indices_of-unsearched.type_inv;
      listed = λ i. (all i).0;
      searched = none_searched (g.T.Bounds.scoring c.args.table.now) c.args.children.now _ _ (λ i. (all i).1);
      least = omega (arith, ints);
      open_left = omega (arith, ints);
      grown = omega (arith, ints);
    }

pub search_shallow_children-search_shallow-score-requires : goal.search_shallow_children-search_shallow-score-requires
search_shallow_children-search_shallow-score-requires g t c κs within =
    let d : 6 * empties_of c.args.position + 1 ≡ t = c.decreases in
    let x = c.index-children-from.result in
    let at = c.from.ensures ∙ c.number.ensures.value in
    let child =
    at_left (IsChildOf c.args.position) c.args.children.now c.loop-unsearched.unsearched c.next_of-index.result
    c.from.result x c.loop-unsearched.invariant.listed c.next_of-index.ensures at c.index-children-from.is c.requires.unlisted.each in
    let e = child_empties c.args.position x child in
    let v = c.empties-empties.ensures.value in
    let w : 6 * empties_of x.position + 5 < t = omega (arith, d, e) in
    (w, (within, (child.replies, (omega (arith, e, v), (omega (arith, v, c.requires.shallow), other_bound c.args.bound c.requires.bound)))))

pub search_shallow_children-returns-then-score-bound : goal.search_shallow_children-returns-then-score-bound
search_shallow_children-returns-then-score-bound g t c =
    let x = c.index-children-from.result in
    let at = c.from.ensures ∙ c.number.ensures.value in
    let child =
    at_left (IsChildOf c.args.position) c.args.children.now c.loop-unsearched.unsearched c.next_of-index.result
    c.from.result x c.loop-unsearched.invariant.listed c.next_of-index.ensures at c.index-children-from.is c.requires.unlisted.each in
    cut_above c.args.bound _ _ (shown (pos 0 -ℤ shown c.search_shallow-score.result)) c.requires.bound
    (turned_above c.args.bound _ _ c.requires.bound c.search_shallow-score.ensures)
    (child_worth (g.T.Bounds.scoring c.args.table.now) c.args.position x child) c.if-score-bound.true

pub search_shallow_children-loop-unsearched-smaller : goal.search_shallow_children-loop-unsearched-smaller
search_shallow_children-loop-unsearched-smaller g t c =
    let small = c.loop-unsearched.invariant.small in
    let k =
    one_less _ _ _ c.next_of-index.ensures c.without-unsearched.ensures small c.without-unsearched.type_inv (on_board _ _ small c.next_of-index.ensures) in
    omega (arith, k)

pub search_shallow_children-loop-unsearched-preserved : goal.search_shallow_children-loop-unsearched-preserved
search_shallow_children-loop-unsearched-preserved g t c =
    let kept = c.loop-unsearched.invariant in
    let items = c.args.children.now in
    let r = g.T.Bounds.scoring c.args.table.now in
    let x = c.index-children-from.result in
    let here = c.next_of-index.ensures in
    let at = c.from.ensures ∙ c.number.ensures.value in
    let child =
    at_left (IsChildOf c.args.position) items c.loop-unsearched.unsearched c.next_of-index.result c.from.result x
    kept.listed here at c.index-children-from.is c.requires.unlisted.each in
    let above = child_worth r c.args.position x child in
    let s = shown (pos 0 -ℤ shown c.search_shallow-score.result) in
    let p = turned_above c.args.bound _ _ c.requires.bound c.search_shallow-score.ensures in
    let more = best_grows c.args.bound _ _ s c.requires.bound p above c.if-score-bound.false _ _ kept.least kept.open_left c.max-best.ensures.value in
    let is : x ≡ get_or items c.next_of-index.result x = subst (λ i. x ≡ get_or items i x) at c.index-children-from.is in
    record {
      small = c.without-unsearched.type_inv;
      listed = λ i h. kept.listed i (was_there _ _ _ here c.without-unsearched.ensures i h);
      searched = one_searched r items c.loop-unsearched.unsearched _ _ x _ _ here c.without-unsearched.ensures is more
          (best_covers c.args.bound _ _ s c.requires.bound p above c.if-score-bound.false _ _ kept.least kept.open_left c.max-best.ensures.value)
          kept.searched;
      least = best_least c.args.bound _ _ s c.requires.bound p above c.if-score-bound.false _ _ kept.least kept.open_left c.max-best.ensures.value;
      open_left = best_open c.args.bound _ _ s c.requires.bound p above c.if-score-bound.false _ _ kept.least kept.open_left c.max-best.ensures.value;
      grown = at_least_as _ _ _ kept.grown more;
    }

pub search_shallow_children-returns : goal.search_shallow_children-returns
search_shallow_children-returns g t c =
    let kept = c.loop-unsearched.invariant in
    let items = c.args.children.now in
    let r = g.T.Bounds.scoring c.args.table.now in
    let all = all_searched_of r items c.loop-unsearched.unsearched _ c.loop-unsearched-test.false kept.searched in
    let grown = unshown _ _ c.requires.least (at_least_as _ _ _ c.requires.open c.requires.bound.1) kept.grown in
    none_above c.args.bound _ _ c.requires.bound (value_score r c.args.position) kept.open_left
    (value_at_most r c.args.position items _ _ c.requires.some c.requires.unlisted grown all)
