use Rattle.std.proofs.Common.{rules}
use Rattle.suite_runs.proofs.solver.Solver.find_claim.Goals as goal

pub returns : goal.returns
returns g c = search rules
