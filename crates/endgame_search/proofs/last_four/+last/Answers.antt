-- Goals that a search would prove are answered too: the search takes longer.
use Rattle.std.proofs.Common.{◌≡◌, ◌∙◌, ◌+◌, ◌*◌, ◌-◌, ◌<◌, refl, sym, ap, subst, arith, pos, neg_ℤ, ◌-ℤ◌, ◌≤ℤ◌, true}
use Rattle.std.proofs.lemmas.Int.{ints}
use Rattle.othello_rules.specs.Masks.{in_mask}
use Rattle.othello_bits.specs.Pos.{pass_of, empties_of, moves_of, final_of, value_of, HasNoMove}
use Rattle.othello_bits.proofs.GameLaws.{empties_positive, empties-play, value-over, value_score, value_above}
use Rattle.endgame_search.specs.Windows.{IsNullWindowScore}
use Rattle.endgame_search.proofs.Bounds.{other_bound, shown_bound, turned_above, cut_above, best_grows, best_covers}
use Rattle.endgame_search.proofs.Bounds.{best_open, best_least, none_above, before_first}
use Rattle.endgame_search.proofs.LastSquareLemmas.{moves_to_empty, no_moves_from, last_some}
use Rattle.endgame_search.proofs.Moves.{passed_empties, passed_worth}
use Rattle.endgame_search.proofs.MovesInOrderLemmas.{none_tried, next_tried, all_tried, passing, passing_most, passing_none, passing_some}
use Rattle.endgame_search.proofs.WindowLemmas.{shown, exact}
use Rattle.endgame_search.proofs.last_four.+last.Goals as goal

pub search_after-search_in_order-requires : goal.search_after-search_in_order-requires
search_after-search_in_order-requires g t c κs within =
    let p = c.args.position in
    let d : 4 * empties_of p + 3 ≡ t = c.decreases in
    let few = passing_most (moves_of p) in
    let w : 4 * empties_of p + passing (moves_of p) < t = omega (arith, d, few) in (
      w,
      (
        within,
        (λ q m. c.empty_squares.ensures.squares q (moves_to_empty c.args.position q m), (c.requires.empties, shown_bound c.args.bound c.requires.bound)),
      ),
    )

pub search_in_order-loop-position-init : goal.search_in_order-loop-position-init
search_in_order-loop-position-init g t c =
    record {
      tried = none_tried (g.T.Bounds.scoring c.args.table.now) c.args.position c.args.squares _ _ c.requires.squares c.in-Some.ensures.some;
      least = omega (arith, ints);
      open_left = before_first c.args.bound c.requires.bound;
    }

pub search_in_order-overflow_sub-empties : goal.search_in_order-overflow_sub-empties
search_in_order-overflow_sub-empties g t c =
    let tried = c.loop-position.invariant.tried in
    let e = c.requires.empties in
    omega (arith, e, empties_positive c.args.position tried.square tried.legal)

pub search_in_order-search_after-score-requires : goal.search_in_order-search_after-score-requires
search_in_order-search_after-score-requires g t c κs within =
    let p = c.args.position in
    let tried = c.loop-position.invariant.tried in
    let d : 4 * empties_of p + passing (moves_of p) ≡ t = c.decreases in
    let e : empties_of c.loop-position.tried.position ≡ empties_of p - 1 = ap empties_of tried.position ∙ empties-play p tried.square tried.legal in
    let some = empties_positive p tried.square tried.legal in
    let w : 4 * empties_of c.loop-position.tried.position + 3 < t = omega (arith, d, e, some) in
    (w, (within, (ap (λ n. n - 1) c.requires.empties ∙ sym e, other_bound c.args.bound c.requires.bound)))

pub search_in_order-returns-then-score-bound : goal.search_in_order-returns-then-score-bound
search_in_order-returns-then-score-bound g t c =
    let r = g.T.Bounds.scoring c.args.table.now in
    let p = c.args.position in
    let tried = c.loop-position.invariant.tried in
    let above = subst (λ d. neg_ℤ (value_of r d) ≤ℤ value_of r p) (sym tried.position) (value_above r p tried.square tried.legal) in
    cut_above c.args.bound _ _ (shown (pos 0 -ℤ shown c.search_after-score.result)) c.requires.bound
    (turned_above c.args.bound _ _ c.requires.bound c.search_after-score.ensures) above c.if-score-bound.true

pub search_in_order-returns-in_default-next_move : goal.search_in_order-returns-in_default-next_move
search_in_order-returns-in_default-next_move g t c =
    let r = g.T.Bounds.scoring c.args.table.now in
    let p = c.args.position in
    let kept = c.loop-position.invariant in
    let tried = kept.tried in
    let above = subst (λ d. neg_ℤ (value_of r d) ≤ℤ value_of r p) (sym tried.position) (value_above r p tried.square tried.legal) in
    let s = shown (pos 0 -ℤ shown c.search_after-score.result) in
    let placed = turned_above c.args.bound _ _ c.requires.bound c.search_after-score.ensures in
    let low = c.if-score-bound.false in
    let is = c.max-best.ensures.value in
    let grows = best_grows c.args.bound _ _ s c.requires.bound placed above low _ _ kept.least kept.open_left is in
    let covers = best_covers c.args.bound _ _ s c.requires.bound placed above low _ _ kept.least kept.open_left is in
    let open' = best_open c.args.bound _ _ s c.requires.bound placed above low _ _ kept.least kept.open_left is in
    none_above c.args.bound _ _ c.requires.bound (value_score r p) open'
    (all_tried r p c.loop-position.tried _ _ tried grows covers (last_some p tried.square tried.legal) (c.in_default-next_move.ensures.none refl))

pub search_in_order-loop-position-smaller : goal.search_in_order-loop-position-smaller
search_in_order-loop-position-smaller g t c = c.in-Some-next_move.ensures.some.fewer

pub search_in_order-loop-position-preserved : goal.search_in_order-loop-position-preserved
search_in_order-loop-position-preserved g t c =
    let r = g.T.Bounds.scoring c.args.table.now in
    let p = c.args.position in
    let kept = c.loop-position.invariant in
    let tried = kept.tried in
    let above = subst (λ d. neg_ℤ (value_of r d) ≤ℤ value_of r p) (sym tried.position) (value_above r p tried.square tried.legal) in
    let s = shown (pos 0 -ℤ shown c.search_after-score.result) in
    let placed = turned_above c.args.bound _ _ c.requires.bound c.search_after-score.ensures in
    let low = c.if-score-bound.false in
    let is = c.max-best.ensures.value in
    let grows = best_grows c.args.bound _ _ s c.requires.bound placed above low _ _ kept.least kept.open_left is in
    let covers = best_covers c.args.bound _ _ s c.requires.bound placed above low _ _ kept.least kept.open_left is in
    let open' = best_open c.args.bound _ _ s c.requires.bound placed above low _ _ kept.least kept.open_left is in
    record {
      tried = next_tried r p c.loop-position.tried _ _ tried grows covers _ c.in-Some-next_move.ensures.some;
      least = best_least c.args.bound _ _ s c.requires.bound placed above low _ _ kept.least kept.open_left is;
      open_left = open';
    }

pub search_in_order-search_pass_in_order-requires : goal.search_in_order-search_pass_in_order-requires
search_in_order-search_pass_in_order-requires g t c κs within =
    let p = c.args.position in
    let none : HasNoMove p = no_moves_from p (λ q m. c.in_default.ensures.none refl q m (c.requires.squares q m)) in
    let d : 4 * empties_of p + passing (moves_of p) ≡ t = c.decreases in
    let w : 4 * empties_of p + 1 < t = omega (arith, d, passing_none (moves_of p) none) in
    (w, (within, (none, (c.requires.empties, shown_bound c.args.bound c.requires.bound))))

pub search_pass_in_order-returns-then-replies-eq0 : goal.search_pass_in_order-returns-then-replies-eq0
search_pass_in_order-returns-then-replies-eq0 g t c =
    let r = g.T.Bounds.scoring c.args.table.now in
    let p = c.args.position in
    let over : HasNoMove (pass_of p) = ap moves_of (sym c.pass-passed.ensures.value) ∙ sym c.moves-replies.ensures.value ∙ c.if-replies-eq0.true in
    let f = c.final_score.ensures.in_range in
    let l = f.low in
    let m = f.high in
    let n : shown c.final_score.result ≡ c.final_score.result = omega (arith, ints, l, m) in
    exact _ _ _ _ (value_score r p)
    (n ∙ c.final_score.ensures.value ∙ ap (λ h. final_of h p) c.scoring.ensures ∙ sym (value-over r p (c.requires.none, over)))

pub search_pass_in_order-search_in_order-requires : goal.search_pass_in_order-search_in_order-requires
search_pass_in_order-search_in_order-requires g t c κs within =
    let d : 4 * empties_of c.args.position + 1 ≡ t = c.decreases in
    let p = c.pass-passed.result in
    let is = c.moves-replies.ensures.value in
    let e = passed_empties c.args.position p c.pass-passed.ensures.value in
    let w : 4 * empties_of p + passing (moves_of p) < t = omega (arith, d, e, passing_some (moves_of p) (λ z. c.if-replies-eq0.false (is ∙ z))) in
    (w, (within, (λ q m. subst (λ n. in_mask n q ≡ true) (sym is) m, (c.requires.empties ∙ sym e, other_bound c.args.bound c.requires.bound))))

pub search_pass_in_order-returns : goal.search_pass_in_order-returns
search_pass_in_order-returns g t c =
    let w =
    passed_worth (g.T.Bounds.scoring c.args.table.now)
    c.args.position c.pass-passed.result c.moves-replies.result c.requires.none c.pass-passed.ensures.value
    c.moves-replies.ensures.value c.if-replies-eq0.false in
    subst (λ z. IsNullWindowScore c.args.bound z (shown (pos 0 -ℤ shown c.search_in_order.result))) (sym w)
    (turned_above c.args.bound _ _ c.requires.bound c.search_in_order.ensures)
