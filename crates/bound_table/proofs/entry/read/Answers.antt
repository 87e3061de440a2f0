use Rattle.bound_table.proofs.entry.read.Goals as goal

pub done-requires : goal.done-requires
done-requires c = c.turn-found.ensures.1 c.if-found-word.true
