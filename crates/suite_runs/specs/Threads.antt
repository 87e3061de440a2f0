-- The parts that the clients of a run promise, and what is known once they are joined.
use Rattle.std.specs.Prelude.{◌≡◌, List, map, Option, Some, None}
use Rattle.suite_runs.specs.Part.{IsPartFault, PartView, part_view, part_view_of}
use Rattle.suite_runs.specs.declared.run_fault.RunFault.{RunFault}
use Rattle.suite_runs.specs.declared.part.Part.{Part}
use Rattle.suite_runs.specs.declared.started_client.PartPromise.{PartPromise}

-- the part that a client's thread promises
abbrev pub promised_part : PartPromise → PartView
promised_part promise = part_view promise.scoring promise.criteria promise.text.now

-- the clients were joined: without a fault these are the promised parts, in their order
abbrev pub AreJoined : List PartPromise → List Part → Option RunFault → Type 0
AreJoined clients parts None = map part_view_of parts ≡ map promised_part clients
AreJoined clients parts (Some fault) = IsPartFault fault
