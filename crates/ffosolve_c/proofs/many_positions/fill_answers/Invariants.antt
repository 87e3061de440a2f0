use Rattle.std.proofs.Common.{◌≡◌, map, take}
use Rattle.ffosolve_c.specs.CValues.{answer_at}
use Rattle.ffosolve_c.proofs.many_positions.fill_answers.Given as goal

abbrev pub invariant-loop-i : goal.invariant-loop-i
invariant-loop-i l = take l.i l.answers ≡ map (answer_at l.table.scoring) (take l.i l.positions)
