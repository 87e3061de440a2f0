use Rattle.std.proofs.Common.{◌≡◌, map, take}
use Rattle.othello_rules.specs.Board.{squares}
use Rattle.ffosolve_c.specs.CValues.{score_at}
use Rattle.ffosolve_c.proofs.scores.fill_scores.Given as goal

abbrev pub invariant-loop-i : goal.invariant-loop-i
invariant-loop-i l = take l.i l.scores ≡ map (score_at l.table.scoring l.position) (take l.i squares)
