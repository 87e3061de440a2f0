use Rattle.std.proofs.Common.{◌≡◌, ℕ, true, count_ones}
use Rattle.othello_rules.specs.Masks.{in_mask}
use Rattle.othello_bits.specs.Pos.{IsMove}
use Rattle.endgame_search.proofs.foresight.foresee_one_ply.Given as goal

abbrev pub decreases-loop-rest : goal.decreases-loop-rest
decreases-loop-rest g l = count_ones l.rest

abbrev pub invariant-loop-rest : goal.invariant-loop-rest
invariant-loop-rest g l = (q : ℕ) → in_mask l.rest q ≡ true → IsMove l.position q
