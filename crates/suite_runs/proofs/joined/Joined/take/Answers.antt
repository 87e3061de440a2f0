use Rattle.std.proofs.Common.{refl}
use Rattle.suite_runs.proofs.joined.Joined.take.Goals as goal

pub returns-in-Ok-clause-part : goal.returns-in-Ok-clause-part
returns-in-Ok-clause-part c = rw c.in-Ok.is (c.push_reserved.ensures.items, refl)
