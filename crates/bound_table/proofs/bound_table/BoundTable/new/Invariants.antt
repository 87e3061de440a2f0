use Rattle.std.proofs.Common.{◌≡◌, ◌≤◌, All}
use Rattle.std.specs.Prelude.{vec_len, vec_capacity}
use Rattle.othello_rules.specs.declared.scoring.Scoring.{Scoring}
use Rattle.bound_table.proofs.bound_table.BoundTable.new.Given as goal

abbrev pub invariant-loop : goal.invariant-loop
invariant-loop l = record {
  scored : All (λ (slot : Scoring). slot ≡ l.scoring) l.slots.items;
  filled : vec_len l.slots ≡ l.counter;
  room : l.entries ≤ vec_capacity l.slots;
}
