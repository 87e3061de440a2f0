use Rattle.bound_table.proofs.CanonicalRanges.{shown_of_canonical}
use Rattle.bound_table.proofs.bound_table.BoundTableBounds.probe.Goals as goal

pub returns-clause-shown : goal.returns-clause-shown
returns-clause-shown c =
    let entry = c.in_ok-entry.entry in
    shown_of_canonical c.range_of.result c.args.self.now.scoring c.args.position.now entry.position entry.range
    (rw c.least_image-canonical.ensures.value at c.range_of.ensures)
    (rw c.slot.ensures at c.in_ok-entry.ensures)
