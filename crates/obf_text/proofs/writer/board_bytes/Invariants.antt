use Rattle.std.proofs.Common.{◌≡◌, length, map, take}
use Rattle.obf_text.specs.Written.{cell_byte}
use Rattle.obf_text.proofs.writer.board_bytes.Given as goal

abbrev pub invariant-loop-number : goal.invariant-loop-number
invariant-loop-number l = record {
  long : length l.bytes ≡ 64;
  front : take l.number l.bytes ≡ map cell_byte (take l.number l.grid.cells);
}
