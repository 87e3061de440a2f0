use Rattle.std.proofs.Common.{◌≡◌, map, take, length}
use Rattle.obf_text.specs.Bytes.{cell_of}
use Rattle.obf_text.proofs.reader.board_of.Given as goal

abbrev pub invariant-loop-i : goal.invariant-loop-i
invariant-loop-i l = record {
  long : length l.cells ≡ 64;
  front : take l.i l.cells ≡ map cell_of (take l.i l.bytes);
}
