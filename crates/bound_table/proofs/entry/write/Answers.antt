use Rattle.std.proofs.Common.{rules}
use Rattle.bound_table.proofs.entry.write.Goals as goal

pub turn-found-requires : goal.turn-found-requires
turn-found-requires c = search rules
