use Rattle.obf_text.specs.LineText.{texts_of}
use Rattle.scored_lines.proofs.Results.{on_err}
use Rattle.list_printer.specs.Output.{lists_output}
use Rattle.written_bytes.proofs.WrittenParts.{front_none}
use Rattle.list_printer.proofs.OutputSteps.{all_printed}
use Rattle.list_printer.proofs.lists.write_lists.Goals as goal

pub returns-clause-written : goal.returns-clause-written
returns-clause-written g c =
    (all_printed _ _ (lists_output c.args.table.scoring c.args.criteria (texts_of c.args.texts.now))
    c.print_all.new.queue.right
    (rw c.in_ok-scorer.ensures.ok at c.in_ok-print_all.ensures.printed)).0

pub returns-clause-right : goal.returns-clause-right
returns-clause-right g c =
    (all_printed _ _ (lists_output c.args.table.scoring c.args.criteria (texts_of c.args.texts.now))
    c.print_all.new.queue.right
    (rw c.in_ok-scorer.ensures.ok at c.in_ok-print_all.ensures.printed)).1

pub returns-in_err-scorer-clause-front : goal.returns-in_err-scorer-clause-front
returns-in_err-scorer-clause-front g c = on_err c.from_residual.result _ (front_none _ _)

pub returns-in_err-print_all-clause-front : goal.returns-in_err-print_all-clause-front
returns-in_err-print_all-clause-front g c =
    on_err c.from_residual-in_err-print_all.result _
    (rw c.in_ok-scorer.ensures.ok at c.in_err-print_all.ensures.front)

pub print_all-requires-clause-limit : goal.print_all-requires-clause-limit
print_all-requires-clause-limit g c = rw c.in_ok-scorer.ensures.ok c.requires

pub print_all-requires-clause-empty : goal.print_all-requires-clause-empty
print_all-requires-clause-empty g c = c.new-3.ensures.items
