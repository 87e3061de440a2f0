use Rattle.std.proofs.Common.{◌≡◌, ◌<◌, ℕ, length, get_or}
use Rattle.othello_rules.proofs.square.Square.all.Given as goal

abbrev pub invariant-loop-number : goal.invariant-loop-number
invariant-loop-number l = record {
  whole : length l.all ≡ 64;
  front : (k : ℕ) → k < l.number → get_or l.all k 0 ≡ k;
}
