use Rattle.std.proofs.Common.{length}
use Rattle.list_printer.specs.Output.{PrintsPart, queue_output}
use Rattle.list_printer.proofs.lists.write_ready.Given as goal

abbrev pub invariant-loop-writer : goal.invariant-loop-writer
invariant-loop-writer g l =
    PrintsPart (g.W.Write.contents l.fn.writer) (g.W.Write.contents l.writer)
    (queue_output l.fn.queue.right l.fn.queue.chunks.items)
    (queue_output l.queue.right l.queue.chunks.items)

abbrev pub decreases-loop-writer : goal.decreases-loop-writer
decreases-loop-writer g l = length l.queue.chunks.items
