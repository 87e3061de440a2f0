use Rattle.std.proofs.Common.{◌≡◌, ℕ, ◌<◌, ◌^◌, true, count_ones}
use Rattle.othello_rules.specs.Masks.{in_mask}
use Rattle.endgame_search.proofs.alpha_beta.next_to_share.Given as goal

abbrev pub decreases-loop-rest : goal.decreases-loop-rest
decreases-loop-rest g l = count_ones l.rest

abbrev pub invariant-loop-rest : goal.invariant-loop-rest
invariant-loop-rest g l = record {
  small : l.rest < 2 ^ 64;
  within : (i : ℕ) → in_mask l.rest i ≡ true → in_mask l.unsearched i ≡ true;
}
