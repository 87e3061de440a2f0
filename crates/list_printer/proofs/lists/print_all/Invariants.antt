use Rattle.obf_text.specs.LineText.{texts_of}
use Rattle.std.specs.Arc.{arc_value}
use Rattle.list_printer.specs.Chunks.{left_lines, left_size}
use Rattle.list_printer.specs.Output.{PrintsPart, both, lines_output, lists_output, queue_output}
use Rattle.list_printer.proofs.lists.print_all.Given as goal

abbrev pub invariant-loop-chunk : goal.invariant-loop-chunk
invariant-loop-chunk g l =
    let s = (arc_value l.scorer).table.scoring in
    let by = (arc_value l.scorer).criteria in
    PrintsPart (g.W.Write.contents l.fn.writer) (g.W.Write.contents l.writer)
    (lists_output s by (texts_of l.fn.texts))
    (both (queue_output l.queue.right l.queue.chunks.items) (lines_output s by (left_lines l.lists)))

abbrev pub decreases-loop-chunk : goal.decreases-loop-chunk
decreases-loop-chunk g l = left_size l.lists
