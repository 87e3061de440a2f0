use Rattle.std.proofs.Common.{subst}
use Rattle.job_board.specs.Senders.{BoardView}
use Rattle.job_board.specs.Boards.{IsBoardView}
use Rattle.job_board.proofs.laws.boards_have_contents.Goals as goal

pub returns-clause-content : goal.returns-clause-content
returns-clause-content c = let P : BoardView → Type 0 = IsBoardView in subst P c.board.view_is c.board.invariant.content
