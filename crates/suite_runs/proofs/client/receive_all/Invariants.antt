use Rattle.std.proofs.Common.{◌≡◌, take}
use Rattle.suite_runs.proofs.client.receive_all.Given as goal

abbrev pub invariant-loop : goal.invariant-loop
invariant-loop g l = record {
  same : l.client.sent ≡ l.initial.client.sent;
  so_far : l.solved.items ≡ take l.client.received l.initial.client.sent;
}
