use Rattle.std.proofs.Common.{◌≡◌, ◌∙◌, sym, ◌<◌, below_more, arith, ℕ, get_or}
use Rattle.std.specs.List.{Contains}
use Rattle.std.proofs.lemmas.Bool.{true≢false, false_from_ne_true}
use Rattle.othello_rules.specs.Rules.{is_move, moves}
use Rattle.othello_rules.proofs.SquareLaws.{item_of_squares}
use Rattle.othello_rules.proofs.MoveLaws.{Contains-moves}
use Rattle.othello_rules.proofs.BoundLaws.{can_move_with, can_move_none}
use Rattle.othello_rules.proofs.grid.Grid.can_move.Goals as goal

pub returns-then-is_legal : goal.returns-then-is_legal
returns-then-is_legal c =
    sym (can_move_with c.args.self.now (get_or c.all.result c.loop-square.square-index c.square-item.result) (c.is_legal.ensures.value.0 c.if-is_legal.true))

pub loop-square-preserved : goal.loop-square-preserved
loop-square-preserved c =
    let item : ℕ = get_or c.all.result c.loop-square.square-index c.square-item.result in
    let at : item ≡ c.loop-square.square-index =
    item_of_squares c.all.result c.loop-square.square-index c.square-item.result c.all.ensures c.loop-square-test.true in
    below_more _ _ c.loop-square.invariant
    (false_from_ne_true (is_move c.args.self.now c.loop-square.square-index) (λ t.
    let m : Contains (moves c.args.self.now) item = rw at (Contains-moves c.args.self.now c.loop-square.square-index c.loop-square-test.true t) in
    true≢false (sym (c.is_legal.ensures.value.1 m) ∙ c.if-is_legal.false)))

pub returns : goal.returns
returns c = sym (can_move_none c.args.self.now (λ k h. let below : k < c.loop-square.square-index = omega arith in c.loop-square.invariant k below))
