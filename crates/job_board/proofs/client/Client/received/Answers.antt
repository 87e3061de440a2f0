use Rattle.std.proofs.Common.{rules}
use Rattle.job_board.proofs.client.Client.received.Goals as goal

pub returns : goal.returns
returns c = search rules
