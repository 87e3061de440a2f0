use Rattle.std.proofs.Common.{rules}
use Rattle.ffosolve_c.proofs.calls.ffosolve_limit.Goals as goal

pub returns-in-0 : goal.returns-in-0
returns-in-0 c = search rules
