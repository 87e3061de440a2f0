use Rattle.std.proofs.Common.{refl}
use Rattle.ffosolve_c.proofs.calls.ffosolve_solve.Goals as goal

pub returns-in-Err-clause-unchanged : goal.returns-in-Err-clause-unchanged
returns-in-Err-clause-unchanged c _ = refl
