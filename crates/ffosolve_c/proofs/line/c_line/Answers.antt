use Rattle.std.proofs.Common.{rules}
use Rattle.ffosolve_c.proofs.line.c_line.Goals as goal

pub returns : goal.returns
returns c = search rules
