use Rattle.std.proofs.Common.{arith}
use Rattle.std.proofs.lemmas.Int.{ints}
use Rattle.othello_bits.specs.Pos.{value_of}
use Rattle.endgame_search.specs.Children.{IsChildOf}
use Rattle.endgame_search.proofs.Bounds.{known_above}
use Rattle.endgame_search.proofs.Moves.{child_worth, at_index}
use Rattle.endgame_search.proofs.table_cutoff.probe_each_child.Goals as goal

pub returns-then-worth-bound : goal.returns-then-worth-bound
returns-then-worth-bound g c =
    let r = g.T.Bounds.scoring c.args.table.now in
    let x = c.child-item.result in
    let child =
    at_index (IsChildOf c.args.position) c.args.children.now c.loop-child.child-index x c.loop-child-test.true c.child-item.is c.requires.children in
    let o = c.high-worth.ensures.ordered in
    let e = c.high-worth.ensures.value in
    known_above c.args.bound (value_of r c.args.position) (value_of r x.position) c.high-worth.result c.requires.bound
    (child_worth r c.args.position x child) (rw (← e) at c.in-Some.ensures.1)
    (omega (arith, ints, e, o.least, o.ordered)) (omega (arith, ints, e, o.most)) c.if-worth-bound.true
