use Rattle.std.proofs.Common.{◌≡◌, length}
use Rattle.list_printer.specs.Chunks.{left_lines, left_size}
use Rattle.list_printer.proofs.chunks.Lists.next_chunk.Given as goal

abbrev pub invariant-loop-limit : goal.invariant-loop-limit
invariant-loop-limit l = record {
  lines : left_lines l.self ≡ left_lines l.fn.self;
  size : left_size l.self ≡ left_size l.fn.self;
}

abbrev pub decreases-loop-limit : goal.decreases-loop-limit
decreases-loop-limit l = length l.self.texts.now
