use Rattle.std.proofs.Common.{rules}
use Rattle.job_board.proofs.desk.Desk.new.Goals as goal

pub returns : goal.returns
returns c = search rules

pub returns-in_err-board : goal.returns-in_err-board
returns-in_err-board c = search rules
