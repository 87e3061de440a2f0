use Rattle.std.proofs.Common.{◌∙◌, rules}
use Rattle.scored_lines.proofs.Results.{on_err}
use Rattle.list_printer.specs.Output.{queue_output}
use Rattle.written_bytes.proofs.WrittenParts.{front_none}
use Rattle.list_printer.proofs.OutputSteps.{front_printed, front_stopped, printed_start}
use Rattle.list_printer.proofs.lists.write_front.Goals as goal

pub returns-in_default-clause-printed : goal.returns-in_default-clause-printed
returns-in_default-clause-printed g c =
    rw c.in_default.ensures.items
    (printed_start _ (queue_output c.args.queue.now.right c.pop_front.new.self.items))

pub returns-in_err-found-clause-front : goal.returns-in_err-found-clause-front
returns-in_err-found-clause-front g c = on_err c.from_residual.result _ (front_none _ _)

pub returns-in_err-send-clause-front : goal.returns-in_err-send-clause-front
returns-in_err-send-clause-front g c =
    on_err c.from_residual-in_err-send.result _
    (front_stopped _ _ c.in-Some.front _ _ c.in-Some.ensures.items
    (rw (c.deref.ensures.value ∙ c.in_ok-found.ensures.0) at c.in_err-send.ensures.front))

pub returns-clause-printed : goal.returns-clause-printed
returns-clause-printed g c =
    front_printed _ _ c.in-Some.front _ c.pop_front.new.self.items c.args.queue.now.right _
    c.in-Some.ensures.items (search rules) (search rules)

pub returns-clause-rest : goal.returns-clause-rest
returns-clause-rest g c = search rules
