use Rattle.std.proofs.Common.{◌≡◌}
use Rattle.othello_rules.specs.Rules as rules
use Rattle.othello_bits.proofs.Numbers.{number_below}
use Rattle.othello_bits.proofs.cells.mask_of_cell.Given as goal

abbrev pub invariant-loop-number : goal.invariant-loop-number
invariant-loop-number l = l.mask ≡ number_below l.number (rules.has l.grid l.cell)
