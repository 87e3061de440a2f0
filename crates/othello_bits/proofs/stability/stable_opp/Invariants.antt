use Rattle.othello_bits.specs.Pos.{discs, AreStable}
use Rattle.othello_bits.proofs.stability.stable_opp.Given as goal

abbrev pub invariant-loop-round : goal.invariant-loop-round
invariant-loop-round l = AreStable (discs l.own l.opp) l.found
