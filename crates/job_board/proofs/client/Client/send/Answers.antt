use Rattle.std.proofs.Common.{rules}
use Rattle.job_board.proofs.client.Client.send.Goals as goal

pub returns-clause-lawful : goal.returns-clause-lawful
returns-clause-lawful c = search rules

pub returns-clause-content : goal.returns-clause-content
returns-clause-content c = search rules
