use Rattle.std.proofs.Common.{◌<◌, ◌∙◌}
use Rattle.othello_bits.specs.Shifts.{line}
use Rattle.othello_bits.specs.declared.mobility.Direction.TheVariants.{SouthEast, South, SouthWest}
use Rattle.othello_bits.proofs.RayMasks.{south_east, south, south_west, three, north_east, north, north_west, over_below}
use Rattle.othello_bits.proofs.flips.to_north.Goals as goal

pub returns : goal.returns
returns c = λ i.
    let q = c.args.square in
    let v = c.mirror_square.result in
    let l : v < 64 = over_below q v c.requires c.mirror_square.ensures in
    let w = south_west v l in
    let s = south v l in
    let e = south_east v l in
    three c.flips_turned_over.result c.flips_turned_over-2.result c.flips_turned_over-3.result i
    ∙ rw (
      c.flips_turned_over.ensures (line SouthWest v) w i,
      c.flips_turned_over-2.ensures (line South v) s i,
      c.flips_turned_over-3.ensures (line SouthEast v) e i,
      north_west q c.requires,
      north q c.requires,
      north_east q c.requires,
      c.mirror_square.ensures,
    )
