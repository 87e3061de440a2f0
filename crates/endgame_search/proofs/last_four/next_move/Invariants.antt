use Rattle.std.proofs.Common.{◌<◌, ◌≤◌, ◌^◌, count_ones}
use Rattle.endgame_search.proofs.MovesInOrderLemmas.{AreAmong}
use Rattle.endgame_search.proofs.last_four.next_move.Given as goal

abbrev pub invariant-loop-rest : goal.invariant-loop-rest
invariant-loop-rest l = record {
  small : l.rest < 2 ^ 64;
  among : AreAmong l.position l.squares l.rest;
  fewer : count_ones l.rest ≤ count_ones l.squares;
}

abbrev pub decreases-loop-rest : goal.decreases-loop-rest
decreases-loop-rest l = count_ones l.rest
