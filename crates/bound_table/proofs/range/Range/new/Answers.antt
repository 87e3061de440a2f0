use Rattle.std.proofs.Common.{rules, arith}
use Rattle.std.proofs.lemmas.Int.{ints}
use Rattle.bound_table.proofs.range.Range.new.Goals as goal

pub invariant_of-result : goal.invariant_of-result
invariant_of-result c = record {
  least = search rules;
  ordered = omega (arith, ints, c.if-low-high.true);
  most = omega (arith, ints, c.if-high-le-GREATEST_SCORE.true);
}
