use Rattle.std.proofs.Common.{◌≡◌, ℕ, ℤ, neg_ℤ, ◌≤ℤ◌, ◌<ℤ◌, ◌+◌, refl, ap, sym, ◌∙◌, subst, arith, take, take_all, to_z, of_z, w8}
use Rattle.std.proofs.lemmas.Int.{ints, by_lt_z}
use Rattle.std.proofs.Math.Facts.{of_z-to_z}
use Rattle.othello_bits.specs.Pos.{value_of}
use Rattle.endgame_search.specs.Children.{IsChildOf}
use Rattle.endgame_search.proofs.Moves.{at_index, child_worth}
use Rattle.endgame_search.proofs.WindowLemmas.{shown, score_same}
use Rattle.endgame_search.proofs.BestMoveLemmas.{HoldsBest, none_held, left_out, added_to, begun_with, best_found}
use Rattle.endgame_search.proofs.solved.best_children.Goals.{then-worth-score, else-worth-score+then-worth-score-2, else-worth-score+else-worth-score-2}
use Rattle.endgame_search.proofs.solved.best_children.Goals as goal

pub loop-child-init : goal.loop-child-init
loop-child-init g c =
    let a = c.requires.low in
    let b = c.requires.high in
    let l = score_same c.args.low a.low a.high in
    let h = score_same c.args.high b.low b.high in
    let o = c.requires.ordered in
    none_held (g.T.Bounds.scoring c.args.table.now) c.args.position (shown c.args.low) (shown c.args.high) (omega (arith, ints))

pub worth_from-worth-requires-clause-most : goal.worth_from-worth-requires-clause-most
worth_from-worth-requires-clause-most g c =
    let r = g.T.Bounds.scoring c.args.table.now in
    let b = c.requires.high in
    let h = score_same c.args.high b.low b.high in
    let child =
    at_index (IsChildOf c.args.position)
    c.args.children.now c.loop-child.child-index c.child-item.result c.loop-child-test.true c.child-item.is c.requires.children.each in
    let w = child_worth r c.args.position c.child-item.result child in
    let m = c.requires.most in
    omega (arith, ints)

pub loop-child-preserved : goal.loop-child-preserved
loop-child-preserved g c =
    let r = g.T.Bounds.scoring c.args.table.now in
    let items = c.args.children.now in
    let child =
    at_index (IsChildOf c.args.position)
    items c.loop-child.child-index c.child-item.result c.loop-child-test.true c.child-item.is c.requires.children.each in
    let x = c.child-item.result in
    let i = c.loop-child.child-index in
    let here = c.loop-child-test.true in
    let held = c.loop-child.invariant in
    let worth = c.worth_from-worth.result in
    let range = c.worth_from-worth.ensures.in_range in
    let w = score_same worth range.low range.high in
    let b = c.requires.high in
    let h = score_same c.args.high b.low b.high in
    let most = c.requires.most in
    let best = to_z w8 c.loop-child.score-bits in
    let after : ℤ → ℕ → Type 0 = HoldsBest r c.args.position (shown c.args.low) (shown c.args.high) (take (i + 1) items) in
    elim c.if-worth-score.branch [
      | then-worth-score b ↦
          let more : best <ℤ worth = omega (arith, ints, b.if-worth-score.true, w) in
          let e : worth ≡ neg_ℤ (value_of r x.position) = c.worth_from-worth.ensures.exact (omega (arith, ints)) in
          subst (λ n. after n c.if-worth-score.squares) (sym b.score-is)
          (subst (after (shown worth)) (sym b.squares-is)
          (subst (λ n. after n b.including-squares.result) (sym w)
          (begun_with r c.args.position _ _ items i x best c.loop-child.squares here c.child-item.is child held
          b.including-squares.result worth b.including-squares.type_inv more e (omega (arith, ints)) b.including-squares.ensures)))
      | else-worth-score+then-worth-score-2 b ↦
          let same : shown worth ≡ best = ap (to_z w8) b.if-worth-score-2.true in
          let e : worth ≡ neg_ℤ (value_of r x.position) = c.worth_from-worth.ensures.exact (omega (arith, ints)) in
          subst (λ n. after n c.if-worth-score.squares) (sym b.score-is)
          (subst (after best) (sym b.squares-is)
          (added_to r c.args.position _ _ items i x best c.loop-child.squares here c.child-item.is child held
          b.including-squares-then-worth-score-2.result worth b.including-squares-then-worth-score-2.type_inv
          (sym same ∙ w ∙ e) b.including-squares-then-worth-score-2.ensures))
      | else-worth-score+else-worth-score-2 b ↦
          let same : best ≤ℤ worth → worth ≡ best = λ k. omega (arith, ints, b.if-worth-score.false, w) in
          let less : worth <ℤ best =
          by_lt_z worth best (λ k. k) (λ k. absurd (b.if-worth-score-2.false (ap (of_z w8) (same k) ∙ of_z-to_z c.loop-child.auto.score-fits))) in
          subst (λ n. after n c.if-worth-score.squares) (sym b.score-is)
          (subst (after best) (sym b.squares-is)
          (left_out r c.args.position _ _ items i x best c.loop-child.squares here c.child-item.is child held (c.worth_from-worth.ensures.less less)))
    ]

pub returns : goal.returns
returns g c =
    let r = g.T.Bounds.scoring c.args.table.now in
    let items = c.args.children.now in
    let a = c.requires.low in
    let l = score_same c.args.low a.low a.high in
    let e : take c.loop-child.child-index items ≡ items = take_all c.loop-child.child-index items (omega (arith, c.loop-child-test.false)) in
    let held =
    subst (λ xs. HoldsBest r c.args.position (shown c.args.low) (shown c.args.high) xs (to_z w8 c.loop-child.score-bits) c.loop-child.squares)
    e c.loop-child.invariant in
    best_found r c.args.position c.args.low (shown c.args.high) items
    (to_z w8 c.loop-child.score-bits) c.loop-child.squares c.requires.low c.requires.some c.requires.children
    (subst (λ z. HoldsBest r c.args.position z (shown c.args.high) items (to_z w8 c.loop-child.score-bits) c.loop-child.squares) l held) _ refl refl
