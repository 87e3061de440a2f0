use Rattle.scored_lines.proofs.Results.{on_err}
use Rattle.list_printer.specs.Output.{queue_output}
use Rattle.list_printer.proofs.OutputSteps.{fewer, printed_stop, printed_then}
use Rattle.list_printer.proofs.lists.write_ready.Goals as goal

pub loop-writer-preserved : goal.loop-writer-preserved
loop-writer-preserved g c =
    printed_then _ _ _ (queue_output c.args.queue.now.right c.args.queue.now.chunks.items)
    (queue_output c.loop-writer.queue.right c.loop-writer.queue.chunks.items)
    (queue_output c.write_front.new.queue.right c.write_front.new.queue.chunks.items)
    c.loop-writer.invariant c.in_ok-write_front.ensures.printed

pub returns-in_err-write_front-clause-front : goal.returns-in_err-write_front-clause-front
returns-in_err-write_front-clause-front g c =
    on_err c.from_residual.result _
    (printed_stop _ _ _ (queue_output c.args.queue.now.right c.args.queue.now.chunks.items)
    (queue_output c.loop-writer.queue.right c.loop-writer.queue.chunks.items)
    c.loop-writer.invariant c.in_err-write_front.ensures.front)

pub loop-writer-smaller : goal.loop-writer-smaller
loop-writer-smaller g c =
    fewer c.loop-writer.queue.chunks.items c.write_front.new.queue.chunks.items
    c.in_ok-write_front.ensures.rest (c.wait.ensures.some c.loop-writer-test.true)
