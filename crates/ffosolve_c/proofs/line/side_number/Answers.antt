use Rattle.std.proofs.Common.{rules}
use Rattle.ffosolve_c.proofs.line.side_number.Goals as goal

pub returns-in-Black : goal.returns-in-Black
returns-in-Black c = search rules
