use Rattle.std.proofs.Common.{rules}
use Rattle.suite_runs.proofs.client.send_and_close.Goals as goal

pub returns-clause-sent : goal.returns-clause-sent
returns-clause-sent g c = search rules
