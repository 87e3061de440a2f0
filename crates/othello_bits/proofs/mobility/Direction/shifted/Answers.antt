use Rattle.othello_bits.proofs.Bits.{in_mask-shl, in_mask-shr_below}
use Rattle.othello_bits.proofs.mobility.Direction.shifted.Goals as goal

pub returns-in-North : goal.returns-in-North
returns-in-North c = λ i. rw c.in-North.is (in_mask-shr_below c.args.mask 8 i c.ranges.mask.fits)

pub returns-in-NorthEast : goal.returns-in-NorthEast
returns-in-NorthEast c = λ i. rw c.in-NorthEast.is (in_mask-shr_below c.args.mask 7 i c.ranges.mask.fits)

pub returns-in-East : goal.returns-in-East
returns-in-East c = λ i. rw c.in-East.is (in_mask-shl c.args.mask 1 i)

pub returns-in-SouthEast : goal.returns-in-SouthEast
returns-in-SouthEast c = λ i. rw c.in-SouthEast.is (in_mask-shl c.args.mask 9 i)

pub returns-in-South : goal.returns-in-South
returns-in-South c = λ i. rw c.in-South.is (in_mask-shl c.args.mask 8 i)

pub returns-in-SouthWest : goal.returns-in-SouthWest
returns-in-SouthWest c = λ i. rw c.in-SouthWest.is (in_mask-shl c.args.mask 7 i)

pub returns-in-West : goal.returns-in-West
returns-in-West c = λ i. rw c.in-West.is (in_mask-shr_below c.args.mask 1 i c.ranges.mask.fits)

pub returns-in-NorthWest : goal.returns-in-NorthWest
returns-in-NorthWest c = λ i. rw c.in-NorthWest.is (in_mask-shr_below c.args.mask 9 i c.ranges.mask.fits)
