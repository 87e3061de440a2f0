use Rattle.std.proofs.Common.{◌≡◌, ℕ, refl}
use Rattle.othello_rules.specs.Masks.{in_mask}
use Rattle.othello_bits.specs.Shifts.{inside}
use Rattle.othello_bits.specs.declared.mobility.Direction.{Direction}
use Rattle.othello_bits.specs.declared.mobility.Direction.TheVariants.{North, NorthEast, East, SouthEast, South, SouthWest, West, NorthWest}
use Rattle.othello_bits.proofs.Bits.{in_mask-and}
use Rattle.othello_bits.proofs.mobility.Direction.inner.Goals as goal

slanted : (h : Direction) (i : ℕ) → (h ≡ North → ⊥) → (h ≡ South → ⊥) → in_mask 0x7e7e7e7e7e7e7e7e i ≡ inside h i
slanted North i n s = absurd (n refl)
slanted NorthEast i n s = refl
slanted East i n s = refl
slanted SouthEast i n s = refl
slanted South i n s = absurd (s refl)
slanted SouthWest i n s = refl
slanted West i n s = refl
slanted NorthWest i n s = refl

pub returns-in_default : goal.returns-in_default
returns-in_default c = λ i. rw (← slanted c.args.self i c.in_default.not-North c.in_default.not-South) (in_mask-and c.args.discs 0x7e7e7e7e7e7e7e7e i)
