use Rattle.std.proofs.Common.{ap, not}
use Rattle.job_board.specs.Senders.{closed_state}
use Rattle.job_board.proofs.sender.Sender.close.Goals as goal

pub returns-clause-was : goal.returns-clause-was
returns-clause-was c = ap (λ s. not s.closed) c.self.view_is

pub returns-clause-state : goal.returns-clause-state
returns-clause-state c = ap closed_state c.self.view_is
