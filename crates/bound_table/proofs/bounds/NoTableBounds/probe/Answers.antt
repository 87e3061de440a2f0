use Rattle.std.proofs.Common.{refl}
use Rattle.bound_table.proofs.bounds.NoTableBounds.probe.Goals as goal

pub returns : goal.returns
returns c = refl
