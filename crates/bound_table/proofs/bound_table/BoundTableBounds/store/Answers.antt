use Rattle.bound_table.proofs.CanonicalRanges.{known_of_canonical}
use Rattle.bound_table.proofs.bound_table.BoundTableBounds.store.Goals as goal

pub write-requires : goal.write-requires
write-requires c =
    rw (c.slot.ensures, c.of-entry.ensures.position, c.of-entry.ensures.range)
    (known_of_canonical c.args.self.now.scoring c.args.position.now c.args.range c.requires)
