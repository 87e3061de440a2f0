use Rattle.std.proofs.Common.{take}
use Rattle.solved_book.proofs.MaskSteps.{IsMaskOfListed}
use Rattle.solved_book.proofs.listing.listed_squares.Given as goal

-- the squares of the fields so far
abbrev pub invariant-loop-field : goal.invariant-loop-field
invariant-loop-field l = IsMaskOfListed l.score (take l.field-index l.listed) l.squares
