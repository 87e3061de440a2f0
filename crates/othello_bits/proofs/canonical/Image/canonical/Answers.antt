use Rattle.std.proofs.Common.{arith}
use Rattle.othello_bits.specs.declared.sym.Sym.TheVariants.{Identity, FlipColumns, FlipRows, HalfTurn, Transpose, TurnRight, TurnLeft, AntiTranspose}
use Rattle.othello_bits.proofs.LeastImages.{IsLeast, one, merge}
use Rattle.othello_bits.proofs.SymmetryPlaces.{place_below}
use Rattle.othello_bits.proofs.canonical.Image.canonical.Goals as goal

pub returns : goal.returns
returns c =
    let a = c.args.own in
    let b = c.args.opp in
    let straight : IsLeast a b 0 2 c.lesser-straight.result = merge a b 0 1 2 _ _ _ (one a b Identity) (one a b FlipColumns) c.lesser-straight.ensures in
    let turned : IsLeast a b 2 4 c.lesser-turned.result = merge a b 2 3 4 _ _ _ (one a b FlipRows) (one a b HalfTurn) c.lesser-turned.ensures in
    let right : IsLeast a b 4 6 c.lesser-right.result = merge a b 4 5 6 _ _ _ (one a b Transpose) (one a b TurnRight) c.lesser-right.ensures in
    let left : IsLeast a b 6 8 c.lesser-left.result = merge a b 6 7 8 _ _ _ (one a b TurnLeft) (one a b AntiTranspose) c.lesser-left.ensures in
    let all : IsLeast a b 0 8 c.least-3.result =
    merge a b 0 4 8 _ _ _ (merge a b 0 2 4 _ _ _ straight turned c.least.ensures) (merge a b 4 6 8 _ _ _ right left c.least-2.ensures) c.least-3.ensures in
    record {
      leads = all.leads;
      least = λ s. all.least s (omega arith) (place_below s);
      first = λ s h. all.first s (omega arith) h;
    }
