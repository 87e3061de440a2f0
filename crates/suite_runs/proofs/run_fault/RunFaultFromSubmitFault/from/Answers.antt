use Rattle.std.proofs.Common.{rules}
use Rattle.suite_runs.proofs.run_fault.RunFaultFromSubmitFault.from.Goals as goal

pub returns-in-Memory : goal.returns-in-Memory
returns-in-Memory c = search rules
