use Rattle.std.proofs.Common.{rules}
use Rattle.job_board.proofs.sender.Sender.check_submit.Goals as goal

pub returns-then-len-ge-MOST_JOBS : goal.returns-then-len-ge-MOST_JOBS
returns-then-len-ge-MOST_JOBS c = search rules

pub returns : goal.returns
returns c = search rules
