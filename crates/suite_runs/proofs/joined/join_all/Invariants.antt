use Rattle.std.proofs.Common.{◌≡◌, ◌≤◌, ◌+◌, ◌++◌, List, vec_len, vec_capacity}
use Rattle.std.specs.Vec.Iter.{into_iter_items, into_iter_len}
use Rattle.suite_runs.specs.Threads.{AreJoined}
use Rattle.suite_runs.specs.declared.started_client.PartPromise.{PartPromise}
use Rattle.suite_runs.proofs.joined.join_all.Given as goal

-- the clients so far are joined, and there is room for those that are left
abbrev pub invariant-loop-client : goal.invariant-loop-client
invariant-loop-client g l = record {
  room : vec_len l.joined.parts + into_iter_len l.client-iterator ≤ vec_capacity l.joined.parts;
  joined : (done : List PartPromise) × (done ++ into_iter_items l.client-iterator ≡ l.fn.clients.items) × AreJoined done l.joined.parts.items l.joined.fault;
}
