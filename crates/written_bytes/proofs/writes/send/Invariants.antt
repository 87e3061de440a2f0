use Rattle.written_bytes.specs.WrittenBytes.{WritesBefore}
use Rattle.written_bytes.proofs.writes.send.Given as goal

abbrev pub invariant-loop : goal.invariant-loop
invariant-loop g l =
    WritesBefore (g.W.Write.contents l.fn.writer) (g.W.Write.contents l.writer) l.rest l.fn.bytes
