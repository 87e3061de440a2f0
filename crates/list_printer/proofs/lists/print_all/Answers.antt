use Rattle.std.proofs.Common.{◌≡◌, ◌∷◌, ◌++◌, [], rules}
use Rattle.std.specs.Arc.{arc_value}
use Rattle.obf_text.specs.LineText.{lines_of, texts_of}
use Rattle.scored_lines.proofs.Results.{both_ok, err_to, on_err}
use Rattle.list_printer.specs.Chunks.{left_lines}
use Rattle.list_printer.specs.Output.{lines_output, lists_output, queue_output}
use Rattle.list_printer.proofs.OutputSteps.{lists_end, lists_start, start_more, start_stop, start_then}
use Rattle.list_printer.proofs.lists.print_all.Goals as goal

pub loop-chunk-init : goal.loop-chunk-init
loop-chunk-init g c =
    let scorer = arc_value c.args.scorer.now in
    lists_start _ scorer.table.scoring scorer.criteria (texts_of c.args.texts.now)
    c.args.queue.now.right c.args.queue.now.chunks.items c.requires.right c.requires.empty

pub loop-chunk-preserved : goal.loop-chunk-preserved
loop-chunk-preserved g c =
    let s = (arc_value c.args.scorer.now).table.scoring in
    let by = (arc_value c.args.scorer.now).criteria in
    let all = lists_output s by (texts_of c.args.texts.now) in
    let right = c.loop-chunk.queue.right in
    let chunks = c.loop-chunk.queue.chunks.items in
    let front = lines_of c.in-Some.chunk.front.now in
    let after = left_lines c.next_chunk.new.self in
    let wider = c.push_back.new.self.items in
    let to : wider ≡ chunks ++ lines_output s by front ∷ [] = search rules in
    start_then _ _ _ all (queue_output right wider)
    (queue_output c.write_ready.new.queue.right c.write_ready.new.queue.chunks.items)
    (lines_output s by after)
    (start_more _ _ s by all right chunks wider (left_lines c.loop-chunk.lists) front after
    c.in-Some.ensures.some to c.loop-chunk.invariant)
    c.in_ok-write_ready.ensures.printed

pub returns-in_err-write_ready-clause-front : goal.returns-in_err-write_ready-clause-front
returns-in_err-write_ready-clause-front g c =
    let s = (arc_value c.args.scorer.now).table.scoring in
    let by = (arc_value c.args.scorer.now).criteria in
    let all = lists_output s by (texts_of c.args.texts.now) in
    let right = c.loop-chunk.queue.right in
    let chunks = c.loop-chunk.queue.chunks.items in
    let front = lines_of c.in-Some.chunk.front.now in
    let after = left_lines c.next_chunk.new.self in
    let wider = c.push_back.new.self.items in
    let to : wider ≡ chunks ++ lines_output s by front ∷ [] = search rules in
    on_err c.from_residual-in_err-write_ready.result _
    (start_stop _ _ _ all (queue_output right wider) (lines_output s by after)
    (start_more _ _ s by all right chunks wider (left_lines c.loop-chunk.lists) front after
    c.in-Some.ensures.some to c.loop-chunk.invariant)
    c.in_err-write_ready.ensures.front)

pub returns-clause-printed : goal.returns-clause-printed
returns-clause-printed g c =
    let scorer = arc_value c.args.scorer.now in
    let end = c.write_ready-2.new.queue in
    both_ok c.write_ready-2.result _ _ _
    (lists_end _ _ _ scorer.table.scoring scorer.criteria
    (lists_output scorer.table.scoring scorer.criteria (texts_of c.args.texts.now))
    (queue_output c.loop-chunk.queue.right c.loop-chunk.queue.chunks.items)
    (left_lines c.loop-chunk.lists) end.right end.chunks.items c.in_default.ensures.none
    c.loop-chunk.invariant)
    c.write_ready-2.ensures.printed c.write_ready-2.ensures.left

pub returns-clause-front : goal.returns-clause-front
returns-clause-front g c =
    let scorer = arc_value c.args.scorer.now in
    err_to c.write_ready-2.result _ _
    (start_stop _ _ _ (lists_output scorer.table.scoring scorer.criteria (texts_of c.args.texts.now))
    (queue_output c.loop-chunk.queue.right c.loop-chunk.queue.chunks.items)
    (lines_output scorer.table.scoring scorer.criteria (left_lines c.loop-chunk.lists))
    c.loop-chunk.invariant)
    c.write_ready-2.ensures.front
