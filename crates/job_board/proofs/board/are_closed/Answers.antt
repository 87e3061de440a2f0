use Rattle.std.proofs.Common.{rules}
use Rattle.job_board.proofs.board.are_closed.Goals as goal

pub returns : goal.returns
returns c = search rules
