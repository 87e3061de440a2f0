use Rattle.std.proofs.Common.{rules}
use Rattle.ffosolve_c.proofs.answer.possible_claim.Goals as goal

pub returns-then-claim-greatest-clause-possible : goal.returns-then-claim-greatest-clause-possible
returns-then-claim-greatest-clause-possible c = search rules
