use Rattle.std.proofs.Common.{rules}
use Rattle.ffosolve_c.proofs.calls.ffosolve_confirm.Goals as goal

pub returns-in-Ok-clause-answer : goal.returns-in-Ok-clause-answer
returns-in-Ok-clause-answer c = search rules
