use Rattle.std.proofs.Common.{take}
use Rattle.ffosolve_c.specs.Refusals.{AreSolvable}
use Rattle.ffosolve_c.proofs.many_positions.first_refused.Given as goal

abbrev pub invariant-loop-i : goal.invariant-loop-i
invariant-loop-i l = AreSolvable (take l.i l.positions)
