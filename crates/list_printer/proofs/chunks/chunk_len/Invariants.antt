use Rattle.std.proofs.Common.{◌<◌}
use Rattle.list_printer.specs.Chunks.{EndsLine}
use Rattle.list_printer.proofs.chunks.chunk_len.Given as goal

abbrev pub invariant-loop : goal.invariant-loop
invariant-loop l = record { ended : EndsLine l.text l.end; some : 0 < l.end }
