use Rattle.std.proofs.Common.{rules}
use Rattle.ffosolve_c.proofs.scores.scores_at.Goals as goal

pub returns : goal.returns
returns c = search rules
