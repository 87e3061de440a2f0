use Rattle.std.proofs.Common.{◌∙◌}
use Rattle.othello_bits.specs.Shifts.{line}
use Rattle.othello_bits.specs.declared.mobility.Direction.TheVariants.{SouthEast, South, SouthWest}
use Rattle.othello_bits.proofs.RayMasks.{south_east, south, south_west, three}
use Rattle.othello_bits.proofs.flips.to_south.Goals as goal

pub returns : goal.returns
returns c = λ i.
    let q = c.args.square in
    let w = south_west q c.requires in
    let s = south q c.requires in
    let e = south_east q c.requires in
    three c.flips_ahead.result c.flips_ahead-2.result c.flips_ahead-3.result i
    ∙ rw (c.flips_ahead.ensures (line SouthWest q) w i, c.flips_ahead-2.ensures (line South q) s i, c.flips_ahead-3.ensures (line SouthEast q) e i)
