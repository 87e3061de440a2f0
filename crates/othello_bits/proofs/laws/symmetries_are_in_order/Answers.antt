use Rattle.std.proofs.Common.{eqb, arith, refl, true}
use Rattle.std.proofs.lemmas.Bool.{agree_below_at, eqb-true}
use Rattle.othello_bits.specs.Symmetries.{others, target}
use Rattle.othello_bits.specs.declared.sym.Sym.TheVariants.{Identity, FlipColumns, FlipRows, HalfTurn, Transpose, TurnRight, TurnLeft, AntiTranspose}
use Rattle.othello_bits.proofs.SymmetryPlaces.{at_place}
use Rattle.othello_bits.proofs.laws.symmetries_are_in_order.Goals as goal

pub returns : goal.returns
unfolding others
returns c = record {
  order = refl;
  places = λ s. at_place s Identity;
  identity = λ q l. eqb-true (target Identity q) q (agree_below_at (λ q. eqb (target Identity q) q) (λ i. true) 64 q refl l);
  columns = λ c r h k. omega arith;
  rows = λ c r h k. omega arith;
  exchanged = λ c r h k. omega arith;
  half =
      λ q l. eqb-true (target HalfTurn q) (target FlipRows (target FlipColumns q))
      (agree_below_at (λ q. eqb (target HalfTurn q) (target FlipRows (target FlipColumns q))) (λ i. true) 64 q refl l);
  right =
      λ q l. eqb-true (target TurnRight q) (target FlipColumns (target Transpose q))
      (agree_below_at (λ q. eqb (target TurnRight q) (target FlipColumns (target Transpose q))) (λ i. true) 64 q refl l);
  left =
      λ q l. eqb-true (target TurnLeft q) (target FlipRows (target Transpose q))
      (agree_below_at (λ q. eqb (target TurnLeft q) (target FlipRows (target Transpose q))) (λ i. true) 64 q refl l);
  anti =
      λ q l. eqb-true (target AntiTranspose q) (target HalfTurn (target Transpose q))
      (agree_below_at (λ q. eqb (target AntiTranspose q) (target HalfTurn (target Transpose q))) (λ i. true) 64 q refl l);
}
