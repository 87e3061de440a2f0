use Rattle.std.proofs.Common.{arith}
use Rattle.bound_table.proofs.bound_table.BoundTable.new.Goals as goal

pub invariant_of-result : goal.invariant_of-result
invariant_of-result c = record {
  scored = c.loop.invariant.scored;
  few = omega (arith, c.loop.invariant.filled, c.loop.auto.counter-end, c.loop-test.false, c.if-entries-gt-MOST_ENTRIES.false);
}
