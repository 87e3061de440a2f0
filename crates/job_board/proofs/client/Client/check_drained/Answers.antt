use Rattle.std.proofs.Common.{arith, refl}
use Rattle.job_board.proofs.client.Client.check_drained.Goals as goal

pub returns-then-self-len-clause-ok : goal.returns-then-self-len-clause-ok
returns-then-self-len-clause-ok c = (refl, rw (← c.self.view_is) (omega (arith, c.self.inside.sent.ok.0)))
