use Rattle.std.proofs.Common.{rules}
use Rattle.ffosolve_c.proofs.calls.ffosolve_version.Goals as goal

pub returns : goal.returns
returns c = search rules
