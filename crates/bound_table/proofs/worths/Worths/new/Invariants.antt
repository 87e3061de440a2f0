use Rattle.std.proofs.Common.{◌≡◌, ◌≤◌}
use Rattle.std.specs.Prelude.{vec_len, vec_capacity}
use Rattle.bound_table.proofs.worths.Worths.new.Given as goal

abbrev pub invariant-loop : goal.invariant-loop
invariant-loop l = record {
  filled : vec_len l.notes ≡ l.counter;
  places : l.places ≤ vec_capacity l.notes;
}
