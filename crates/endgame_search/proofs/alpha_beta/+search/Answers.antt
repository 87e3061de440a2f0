-- Goals that a search would prove are answered too: the search takes longer.
use Rattle.std.proofs.Common.{arith, rules, refl, pos, negsuc, ◌≡◌, ◌<◌, ◌+◌, ◌*◌, ◌-ℤ◌, neg_ℤ, ◌≤ℤ◌, get_or, to_z, w8}
use Rattle.std.proofs.Common.{length, sym, ap, ◌∙◌, subst, take, take_all}
use borrow.Author.Count.{falls}
use Rattle.std.proofs.lemmas.Int.{ints}
use Rattle.std.proofs.lemmas.List.Elements.{All-same}
use Rattle.othello_bits.specs.Pos.{moves_of, pass_of, empties_of, final_of, value_of, HasNoMove}
use Rattle.othello_bits.proofs.GameLaws.{value_score, value-over}
use Rattle.endgame_search.specs.declared.move_order.Child.{Child}
use Rattle.endgame_search.specs.Children.{IsChildOf, AreChildrenOf, UnlistedAreAtMost}
use Rattle.endgame_search.specs.Windows.{IsNullWindowScore}
use Rattle.endgame_search.proofs.Bounds.{bound_same, shown_bound, other_bound, stored_window, stored_fail_soft}
use Rattle.endgame_search.proofs.Bounds.{same_fail_soft, turned_above, cut_above, score_open, score_covers, best_grows}
use Rattle.endgame_search.proofs.Bounds.{best_covers, best_open, best_least, none_above, before_first, after_first}
use Rattle.endgame_search.proofs.EmptySquares.{few_moves}
use Rattle.endgame_search.proofs.Moves.{child_worth, child_empties, passed_worth, passed_empties, at_index}
use Rattle.endgame_search.proofs.Moves.{searched_more, value_at_most, unlisted_after_first, unlisted_sorted}
use Rattle.endgame_search.proofs.Moves.{none_unlisted, judged_sorted}
use Rattle.endgame_search.proofs.SearchedChildren.{at_left, none_searched, one_searched, all_searched_of}
use Rattle.endgame_search.proofs.TakenSquares.{was_there, on_board, one_less}
use Rattle.endgame_search.proofs.WindowLemmas.{shown, shown_same, exact, at_least_as, unshown}
use Rattle.endgame_search.proofs.alpha_beta.+search.Goals as goal

pub search-search_moves-requires : goal.search-search_moves-requires
search-search_moves-requires g t c κs within =
    let d : 8 * empties_of c.args.position + 7 ≡ t = c.decreases in
    let w : 8 * empties_of c.args.position + 5 < t = omega (arith, d) in
    (w, (within, (c.requires.moves, (c.if-moves-ne0.true, shown_bound c.args.bound c.requires.bound))))

pub search-search_pass-requires : goal.search-search_pass-requires
search-search_pass-requires g t c κs within =
    let d : 8 * empties_of c.args.position + 7 ≡ t = c.decreases in
    let w : 8 * empties_of c.args.position + 6 < t = omega (arith, d) in
    (w, (within, (sym c.requires.moves ∙ c.if-moves-ne0.false, shown_bound c.args.bound c.requires.bound)))

pub search-returns-then-moves-ne0 : goal.search-returns-then-moves-ne0
search-returns-then-moves-ne0 g t c = same_fail_soft c.args.bound c.requires.bound _ _ c.search_moves.ensures

pub search-returns-else-moves-ne0 : goal.search-returns-else-moves-ne0
search-returns-else-moves-ne0 g t c = same_fail_soft c.args.bound c.requires.bound _ _ c.search_pass.ensures

pub search_pass-returns-then-replies-eq0 : goal.search_pass-returns-then-replies-eq0
search_pass-returns-then-replies-eq0 g t c =
    let over : HasNoMove (pass_of c.args.position) =
    ap moves_of (sym c.pass-passed.ensures.value) ∙ sym c.moves-replies.ensures.value ∙ c.if-replies-eq0.true in
    let r = g.T.Bounds.scoring c.args.table.now in
    let s = value_score r c.args.position in
    let e : c.final_score.result ≡ value_of r c.args.position =
    c.final_score.ensures.value ∙ ap (λ h. final_of h c.args.position) c.scoring.ensures ∙ sym (value-over r c.args.position (c.requires.none, over)) in
    let l = s.low in
    let m = s.high in
    let f : shown c.final_score.result ≡ c.final_score.result = omega (arith, ints, e, l, m) in
    exact _ _ _ _ s (f ∙ e)

pub search_pass-probe_cutoff-requires : goal.search_pass-probe_cutoff-requires
search_pass-probe_cutoff-requires g t c = shown_bound c.args.bound c.requires.bound

pub search_pass-returns-in-Some : goal.search_pass-returns-in-Some
search_pass-returns-in-Some g t c = same_fail_soft c.args.bound c.requires.bound _ _ c.in-Some.ensures

pub search_pass-search_moves-score-requires : goal.search_pass-search_moves-score-requires
search_pass-search_moves-score-requires g t c κs within =
    let d : 8 * empties_of c.args.position + 6 ≡ t = c.decreases in
    let w : 8 * empties_of c.pass-passed.result + 5 < t = omega (arith, d, passed_empties c.args.position c.pass-passed.result c.pass-passed.ensures.value) in
    (w, (within, (c.moves-replies.ensures.value, (c.if-replies-eq0.false, other_bound c.args.bound c.requires.bound))))

pub search_pass-store_if_deep-requires-clause-window : goal.search_pass-store_if_deep-requires-clause-window
search_pass-store_if_deep-requires-clause-window g t c = stored_window c.args.bound c.requires.bound

pub search_pass-store_if_deep-requires-clause-fail_soft : goal.search_pass-store_if_deep-requires-clause-fail_soft
search_pass-store_if_deep-requires-clause-fail_soft g t c =
    let w =
    passed_worth (g.T.Bounds.scoring c.args.table.now)
    c.args.position c.pass-passed.result c.moves-replies.result c.requires.none c.pass-passed.ensures.value
    c.moves-replies.ensures.value c.if-replies-eq0.false in
    stored_fail_soft c.args.bound c.requires.bound _ _
    (subst (λ z. IsNullWindowScore c.args.bound z (shown (pos 0 -ℤ shown c.search_moves-score.result))) (sym w)
    (turned_above c.args.bound _ _ c.requires.bound c.search_moves-score.ensures))

pub search_pass-returns : goal.search_pass-returns
search_pass-returns g t c =
    let w =
    passed_worth (g.T.Bounds.scoring c.args.table.now)
    c.args.position c.pass-passed.result c.moves-replies.result c.requires.none c.pass-passed.ensures.value
    c.moves-replies.ensures.value c.if-replies-eq0.false in
    subst (λ z. IsNullWindowScore c.args.bound z (shown (pos 0 -ℤ shown c.search_moves-score.result))) (sym w)
    (turned_above c.args.bound _ _ c.requires.bound c.search_moves-score.ensures)

pub search_moves-probe_cutoff-requires : goal.search_moves-probe_cutoff-requires
search_moves-probe_cutoff-requires g t c = shown_bound c.args.bound c.requires.bound

pub search_moves-returns-in-Some : goal.search_moves-returns-in-Some
search_moves-returns-in-Some g t c = same_fail_soft c.args.bound c.requires.bound _ _ c.in-Some.ensures

pub search_moves-search_by_list-score-requires : goal.search_moves-search_by_list-score-requires
search_moves-search_by_list-score-requires g t c κs within =
    let d : 8 * empties_of c.args.position + 5 ≡ t = c.decreases in
    let w : 8 * empties_of c.args.position + 4 < t = omega (arith, d) in
    (w, (within, (c.requires.moves, (c.requires.some, shown_bound c.args.bound c.requires.bound))))

pub search_moves-store_if_deep-requires-clause-window : goal.search_moves-store_if_deep-requires-clause-window
search_moves-store_if_deep-requires-clause-window g t c = stored_window c.args.bound c.requires.bound

pub search_moves-store_if_deep-requires-clause-fail_soft : goal.search_moves-store_if_deep-requires-clause-fail_soft
search_moves-store_if_deep-requires-clause-fail_soft g t c =
    stored_fail_soft c.args.bound c.requires.bound _ _ (same_fail_soft c.args.bound c.requires.bound _ _ c.search_by_list-score.ensures)

pub search_moves-returns : goal.search_moves-returns
search_moves-returns g t c = same_fail_soft c.args.bound c.requires.bound _ _ c.search_by_list-score.ensures

pub search_by_list-search_by_mobility-requires : goal.search_by_list-search_by_mobility-requires
search_by_list-search_by_mobility-requires g t c κs within =
    let d : 8 * empties_of c.args.position + 4 ≡ t = c.decreases in
    let w : 8 * empties_of c.args.position + 3 < t = omega (arith, d) in
    let few : empties_of c.args.position < 12 = subst (λ n. n < 12) c.empties.ensures.value c.if-empties-lt-FEWEST_SHARED_OUT.true in
    (w, (within, (c.requires.moves, (c.requires.some, (few, shown_bound c.args.bound c.requires.bound)))))

pub search_by_list-returns-then-empties-lt-FEWEST_SHARED_OUT : goal.search_by_list-returns-then-empties-lt-FEWEST_SHARED_OUT
search_by_list-returns-then-empties-lt-FEWEST_SHARED_OUT g t c = same_fail_soft c.args.bound c.requires.bound _ _ c.search_by_mobility.ensures

pub search_by_list-search_by_worth-requires : goal.search_by_list-search_by_worth-requires
search_by_list-search_by_worth-requires g t c κs within =
    let d : 8 * empties_of c.args.position + 4 ≡ t = c.decreases in
    let w : 8 * empties_of c.args.position + 3 < t = omega (arith, d) in
    (w, (within, (c.requires.moves, (c.requires.some, shown_bound c.args.bound c.requires.bound))))

pub search_by_list-returns-else-empties-lt-FEWEST_SHARED_OUT : goal.search_by_list-returns-else-empties-lt-FEWEST_SHARED_OUT
search_by_list-returns-else-empties-lt-FEWEST_SHARED_OUT g t c = same_fail_soft c.args.bound c.requires.bound _ _ c.search_by_worth.ensures

pub search_by_mobility-add_until_no_replies-requires : goal.search_by_mobility-add_until_no_replies-requires
search_by_mobility-add_until_no_replies-requires g t c =
    let room = few_moves c.args.position c.args.moves c.requires.moves c.ranges.moves.fits in
    (search rules, (c.requires.moves, (omega (arith, room, c.requires.few), c.new-children.ensures)))

pub search_by_mobility-search_children-requires : goal.search_by_mobility-search_children-requires
search_by_mobility-search_children-requires g t c κs within =
    let r = g.T.Bounds.scoring c.args.table.now in
    let d : 8 * empties_of c.args.position + 3 ≡ t = c.decreases in
    let w : 8 * empties_of c.args.position + 2 < t = omega (arith, d) in
    let unlisted =
    unlisted_sorted r c.args.position (negsuc 64) _ _ c.sort_children.ensures
    (none_unlisted r c.args.position _ (negsuc 64) (c.in_default.ensures.all refl)) in (
      w,
      (
        within,
        (
          subst (UnlistedAreAtMost r c.args.position (negsuc 64)) (sym c.deref.ensures.0) unlisted,
          (
            omega (arith, ints),
            (
              before_first c.args.bound c.requires.bound,
              (λ z. c.requires.some (c.requires.moves ∙ z), shown_bound c.args.bound c.requires.bound),
            ),
          ),
        ),
      ),
    )

pub search_by_mobility-returns-in_default : goal.search_by_mobility-returns-in_default
search_by_mobility-returns-in_default g t c = same_fail_soft c.args.bound c.requires.bound _ _ c.search_children.ensures

pub search_by_mobility-search-score-requires : goal.search_by_mobility-search-score-requires
search_by_mobility-search-score-requires g t c κs within =
    let split = c.in-Some.ensures.split in
    let d : 8 * empties_of c.args.position + 3 ≡ t = c.decreases in
    let w : 8 * empties_of c.in-Some.split.child.position + 7 < t = omega (arith, d, child_empties c.args.position c.in-Some.split.child split.child) in
    (w, (within, (split.child.replies, other_bound c.args.bound c.requires.bound)))

pub search_by_mobility-returns-then-score-bound : goal.search_by_mobility-returns-then-score-bound
search_by_mobility-returns-then-score-bound g t c =
    cut_above c.args.bound _ _ (shown (pos 0 -ℤ shown c.search-score.result)) c.requires.bound
    (turned_above c.args.bound _ _ c.requires.bound c.search-score.ensures)
    (child_worth (g.T.Bounds.scoring c.args.table.now) c.args.position c.in-Some.split.child c.in-Some.ensures.split.child) c.if-score-bound.true

pub search_by_mobility-add_children-requires : goal.search_by_mobility-add_children-requires
search_by_mobility-add_children-requires g t c = (search rules, (c.in-Some.ensures.split.rest, (c.in-Some.ensures.room, c.in-Some.ensures.split.each)))

pub search_by_mobility-search_children-requires-2 : goal.search_by_mobility-search_children-requires-2
search_by_mobility-search_children-requires-2 g t c κs within =
    let r = g.T.Bounds.scoring c.args.table.now in
    let split = c.in-Some.ensures.split in
    let above = child_worth r c.args.position c.in-Some.split.child split.child in
    let d : 8 * empties_of c.args.position + 3 ≡ t = c.decreases in
    let w : 8 * empties_of c.args.position + 2 < t = omega (arith, d) in
    let s = shown (pos 0 -ℤ shown c.search-score.result) in
    let p = turned_above c.args.bound _ _ c.requires.bound c.search-score.ensures in
    let covered = score_covers c.args.bound _ _ s c.requires.bound p above c.if-score-bound.false in
    let unlisted =
    unlisted_sorted r c.args.position _ _ _ c.sort_children-2.ensures
    (unlisted_after_first r c.args.position c.in-Some.split _ _ _ split covered c.add_children.ensures.each c.add_children.ensures.every) in (
      w,
      (
        within,
        (
          subst (UnlistedAreAtMost r c.args.position s) (sym c.deref-2.ensures.0) unlisted,
          (
            after_first _ p.least,
            (
              score_open c.args.bound _ _ s c.requires.bound p above c.if-score-bound.false,
              (λ z. c.requires.some (c.requires.moves ∙ z), shown_bound c.args.bound c.requires.bound),
            ),
          ),
        ),
      ),
    )

pub search_by_mobility-returns : goal.search_by_mobility-returns
search_by_mobility-returns g t c = same_fail_soft c.args.bound c.requires.bound _ _ c.search_children-2.ensures

pub search_by_worth-search_children-requires : goal.search_by_worth-search_children-requires
search_by_worth-search_children-requires g t c κs within =
    let r = g.T.Bounds.scoring c.args.table.now in
    let p = c.args.position in
    let d : 8 * empties_of p + 3 ≡ t = c.decreases in
    let w : 8 * empties_of p + 2 < t = omega (arith, d) in
    let sorted =
    judged_sorted p _ _ c.judge_children.new.children _
    (sym (c.judge_children.auto.children ∙ ap length c.deref_mut.ensures.value)) c.sort_children.ensures c.judge_children.ensures in
    let unlisted = none_unlisted r p _ (negsuc 64) sorted in (
      w,
      (
        within,
        (
          subst (UnlistedAreAtMost r p (negsuc 64)) (sym c.deref-then-len-ge64.ensures.0) unlisted,
          (
            omega (arith, ints),
            (
              before_first c.args.bound c.requires.bound,
              (λ z. c.requires.some (c.requires.moves ∙ z), shown_bound c.args.bound c.requires.bound),
            ),
          ),
        ),
      ),
    )

pub search_by_worth-search_shared_children-requires : goal.search_by_worth-search_shared_children-requires
search_by_worth-search_shared_children-requires g t c κs within =
    let p = c.args.position in
    let d : 8 * empties_of p + 3 ≡ t = c.decreases in
    let w : 8 * empties_of p + 2 < t = omega (arith, d) in
    let sorted =
    judged_sorted p _ _ c.judge_children.new.children _
    (sym (c.judge_children.auto.children ∙ ap length c.deref_mut.ensures.value)) c.sort_children.ensures c.judge_children.ensures in
    let few : length c.deref-2.result.now < 64 = subst (λ n. n < 64) (c.len.ensures.value ∙ ap length (sym c.deref-2.ensures.0)) c.if-len-ge64.false in (
      w,
      (
        within,
        (
          subst (AreChildrenOf p) (sym c.deref-2.ensures.0) sorted,
          (few, (λ z. c.requires.some (c.requires.moves ∙ z), shown_bound c.args.bound c.requires.bound)),
        ),
      ),
    )

pub search_shared_children-loop-unsearched-init : goal.search_shared_children-loop-unsearched-init
search_shared_children-loop-unsearched-init g t c =
    let all = c.indices_of-unsearched.ensures in
    let n = c.requires.bound.1 in
    record {
      small = c.indices_of-unsearched.type_inv;
      listed = λ i. (all i).0;
      searched = none_searched (g.T.Bounds.scoring c.args.table.now) c.args.children.now _ _ (λ i. (all i).1);
      least = omega (arith, ints);
      open_left = before_first c.args.bound c.requires.bound;
    }

pub search_shared_children-search-score-requires : goal.search_shared_children-search-score-requires
search_shared_children-search-score-requires g t c κs within =
    let d : 8 * empties_of c.args.position + 2 ≡ t = c.decreases in
    let x = c.index-children-from.result in
    let at = c.from.ensures ∙ c.number.ensures.value in
    let child =
    at_left (IsChildOf c.args.position) c.args.children.now c.loop-unsearched.unsearched
    c.next_to_share-index.result c.from.result x c.loop-unsearched.invariant.listed
    c.next_to_share-index.ensures at c.index-children-from.is c.requires.children.each in
    let w : 8 * empties_of x.position + 7 < t = omega (arith, d, child_empties c.args.position x child) in
    (w, (within, (child.replies, other_bound c.args.bound c.requires.bound)))

pub search_shared_children-returns-then-score-bound : goal.search_shared_children-returns-then-score-bound
search_shared_children-returns-then-score-bound g t c =
    let x = c.index-children-from.result in
    let at = c.from.ensures ∙ c.number.ensures.value in
    let child =
    at_left (IsChildOf c.args.position) c.args.children.now c.loop-unsearched.unsearched
    c.next_to_share-index.result c.from.result x c.loop-unsearched.invariant.listed
    c.next_to_share-index.ensures at c.index-children-from.is c.requires.children.each in
    cut_above c.args.bound _ _ (shown (pos 0 -ℤ shown c.search-score.result)) c.requires.bound
    (turned_above c.args.bound _ _ c.requires.bound c.search-score.ensures)
    (child_worth (g.T.Bounds.scoring c.args.table.now) c.args.position x child) c.if-score-bound.true

pub search_shared_children-probe_cutoff-requires : goal.search_shared_children-probe_cutoff-requires
search_shared_children-probe_cutoff-requires g t c = shown_bound c.args.bound c.requires.bound

pub search_shared_children-returns-in-Some : goal.search_shared_children-returns-in-Some
search_shared_children-returns-in-Some g t c = same_fail_soft c.args.bound c.requires.bound _ _ c.in-Some.ensures

pub search_shared_children-loop-unsearched-smaller : goal.search_shared_children-loop-unsearched-smaller
search_shared_children-loop-unsearched-smaller g t c =
    let small = c.loop-unsearched.invariant.small in
    let k =
    one_less _ _ _ c.next_to_share-index.ensures c.without-unsearched.ensures small c.without-unsearched.type_inv
    (on_board _ _ small c.next_to_share-index.ensures) in
    omega (arith, k)

pub search_shared_children-loop-unsearched-preserved : goal.search_shared_children-loop-unsearched-preserved
search_shared_children-loop-unsearched-preserved g t c =
    let kept = c.loop-unsearched.invariant in
    let items = c.args.children.now in
    let r = g.T.Bounds.scoring c.args.table.now in
    let x = c.index-children-from.result in
    let here = c.next_to_share-index.ensures in
    let at = c.from.ensures ∙ c.number.ensures.value in
    let child =
    at_left (IsChildOf c.args.position) items c.loop-unsearched.unsearched c.next_to_share-index.result
    c.from.result x kept.listed here at c.index-children-from.is c.requires.children.each in
    let above = child_worth r c.args.position x child in
    let s = shown (pos 0 -ℤ shown c.search-score.result) in
    let p = turned_above c.args.bound _ _ c.requires.bound c.search-score.ensures in
    let more = best_grows c.args.bound _ _ s c.requires.bound p above c.if-score-bound.false _ _ kept.least kept.open_left c.max-best.ensures.value in
    let is : x ≡ get_or items c.next_to_share-index.result x = subst (λ i. x ≡ get_or items i x) at c.index-children-from.is in
    record {
      small = c.without-unsearched.type_inv;
      listed = λ i h. kept.listed i (was_there _ _ _ here c.without-unsearched.ensures i h);
      searched = one_searched r items c.loop-unsearched.unsearched _ _ x _ _ here c.without-unsearched.ensures is more
          (best_covers c.args.bound _ _ s c.requires.bound p above c.if-score-bound.false _ _ kept.least kept.open_left c.max-best.ensures.value)
          kept.searched;
      least = best_least c.args.bound _ _ s c.requires.bound p above c.if-score-bound.false _ _ kept.least kept.open_left c.max-best.ensures.value;
      open_left = best_open c.args.bound _ _ s c.requires.bound p above c.if-score-bound.false _ _ kept.least kept.open_left c.max-best.ensures.value;
    }

pub search_shared_children-returns : goal.search_shared_children-returns
search_shared_children-returns g t c =
    let kept = c.loop-unsearched.invariant in
    let items = c.args.children.now in
    let r = g.T.Bounds.scoring c.args.table.now in
    let all = all_searched_of r items c.loop-unsearched.unsearched _ c.loop-unsearched-test.false kept.searched in
    let b = to_z w8 c.loop-unsearched.best-bits in
    let same : b ≤ℤ b = omega (arith, ints) in
    none_above c.args.bound _ _ c.requires.bound (value_score r c.args.position) kept.open_left
    (value_at_most r c.args.position items b b c.requires.some (none_unlisted r c.args.position items b c.requires.children) same all)

pub search_children-bounds-children-child-index : goal.search_children-bounds-children-child-index
search_children-bounds-children-child-index g t c = c.loop-child-test.true

pub search_children-loop-child-init : goal.search_children-loop-child-init
search_children-loop-child-init g t c =
    let l = c.requires.least in
    let m = c.requires.open in
    let n = c.requires.bound.1 in
    let same : shown c.args.best_so_far ≡ c.args.best_so_far = shown_same c.args.best_so_far l (omega (arith, ints)) in
    let bound : shown c.args.bound ≡ c.args.bound = bound_same c.args.bound c.requires.bound in
    record {
      searched = λ k x h. absurd (omega (arith, h));
      least = omega (arith, ints);
      open_left = omega (arith, ints);
      grown = omega (arith, ints);
    }

pub search_children-search-score-requires : goal.search_children-search-score-requires
search_children-search-score-requires g t c κs within =
    let d : 8 * empties_of c.args.position + 2 ≡ t = c.decreases in
    let child =
    at_index (IsChildOf c.args.position)
    c.args.children.now c.loop-child.child-index c.child-item.result c.loop-child-test.true c.child-item.is c.requires.unlisted.each in
    let w : 8 * empties_of c.child-item.result.position + 7 < t = omega (arith, d, child_empties c.args.position c.child-item.result child) in
    (w, (within, (child.replies, other_bound c.args.bound c.requires.bound)))

pub search_children-returns-then-score-bound : goal.search_children-returns-then-score-bound
search_children-returns-then-score-bound g t c =
    let child =
    at_index (IsChildOf c.args.position)
    c.args.children.now c.loop-child.child-index c.child-item.result c.loop-child-test.true c.child-item.is c.requires.unlisted.each in
    cut_above c.args.bound _ _ (shown (pos 0 -ℤ shown c.search-score.result)) c.requires.bound
    (turned_above c.args.bound _ _ c.requires.bound c.search-score.ensures)
    (child_worth (g.T.Bounds.scoring c.args.table.now) c.args.position c.child-item.result child) c.if-score-bound.true

pub search_children-loop-child-smaller : goal.search_children-loop-child-smaller
search_children-loop-child-smaller g t c = falls _ _ c.loop-child-test.true

pub search_children-loop-child-preserved : goal.search_children-loop-child-preserved
search_children-loop-child-preserved g t c =
    let kept = c.loop-child.invariant in
    let items = c.args.children.now in
    let r = g.T.Bounds.scoring c.args.table.now in
    let child =
    at_index (IsChildOf c.args.position)
    items c.loop-child.child-index c.child-item.result c.loop-child-test.true c.child-item.is c.requires.unlisted.each in
    let above = child_worth r c.args.position c.child-item.result child in
    let s = shown (pos 0 -ℤ shown c.search-score.result) in
    let p = turned_above c.args.bound _ _ c.requires.bound c.search-score.ensures in
    let more = best_grows c.args.bound _ _ s c.requires.bound p above c.if-score-bound.false _ _ kept.least kept.open_left c.max-best.ensures.value in
    record {
      searched = searched_more r items c.loop-child.child-index c.child-item.result _ _ c.loop-child-test.true c.child-item.is more
          (best_covers c.args.bound _ _ s c.requires.bound p above c.if-score-bound.false _ _ kept.least kept.open_left c.max-best.ensures.value)
          kept.searched;
      least = best_least c.args.bound _ _ s c.requires.bound p above c.if-score-bound.false _ _ kept.least kept.open_left c.max-best.ensures.value;
      open_left = best_open c.args.bound _ _ s c.requires.bound p above c.if-score-bound.false _ _ kept.least kept.open_left c.max-best.ensures.value;
      grown = at_least_as _ _ _ kept.grown more;
    }

pub search_children-returns : goal.search_children-returns
search_children-returns g t c =
    let kept = c.loop-child.invariant in
    let items = c.args.children.now in
    let r = g.T.Bounds.scoring c.args.table.now in
    let e : take c.loop-child.child-index items ≡ items = take_all c.loop-child.child-index items (omega (arith, c.loop-child-test.false)) in
    let all = All-same (λ (x : Child). neg_ℤ (value_of r x.position) ≤ℤ to_z w8 c.loop-child.best-bits) items _ (sym e) kept.searched in
    let grown = unshown _ _ c.requires.least (at_least_as _ _ _ c.requires.open c.requires.bound.1) kept.grown in
    none_above c.args.bound _ _ c.requires.bound (value_score r c.args.position) kept.open_left
    (value_at_most r c.args.position items _ _ c.requires.some c.requires.unlisted grown all)
