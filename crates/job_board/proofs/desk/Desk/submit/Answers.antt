use Rattle.std.proofs.Common.{rules}
use Rattle.job_board.proofs.desk.Desk.submit.Goals as goal

pub returns-clause-ok : goal.returns-clause-ok
returns-clause-ok g c = search rules
