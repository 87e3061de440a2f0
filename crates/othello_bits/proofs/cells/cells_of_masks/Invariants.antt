use Rattle.std.proofs.Common.{◌≡◌, ◌<◌, ℕ, length, get_or}
use Rattle.othello_rules.specs.declared.discs.Cell.{Cell}
use Rattle.othello_bits.specs.Pos.{discs, cell_at}
use Rattle.othello_bits.proofs.cells.cells_of_masks.Given as goal

abbrev pub invariant-loop-number : goal.invariant-loop-number
invariant-loop-number l = record {
  whole : length l.cells ≡ 64;
  filled : (k : ℕ) (d : Cell) → k < l.number → get_or l.cells k d ≡ cell_at l.side (discs l.own l.opp) k;
}
