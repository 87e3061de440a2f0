use Rattle.std.proofs.Common.{◌≡◌, sym, ap, ap₂, ◌∙◌, arith}
use Rattle.std.specs.Slice.Iter.{iter_rest}
use Rattle.std.proofs.lemmas.Option.{slice_get_within}
use Rattle.othello_bits.specs.Pos.{answer_of}
use Rattle.endgame_search.specs.Task.{TaskView}
use Rattle.suite_reports.specs.Check.{check_by}
use Rattle.suite_reports.specs.ParsedLine.{parsed_result, task_in}
use Rattle.suite_reports.specs.declared.report_row.RowResult.TheVariants.{Solved}
use Rattle.suite_reports.proofs.parsed_line.ParsedLine.result.Goals as goal

pub unreachable-requires : goal.unreachable-requires
unreachable-requires c =
    let t = c.in-Position.task in
    let some = slice_get_within (iter_rest c.args.answers.now) 0 t (c.requires t (ap task_in c.in-Position.is)) in
    let none = c.in_default.ensures.steps.0 in
    omega arith

pub returns-in-Some-clause-result : goal.returns-in-Some-clause-result
returns-in-Some-clause-result c =
    let t = c.in-Position.task in
    let first = rw c.in-Some.ensures.steps at (c.requires t (ap task_in c.in-Position.is)) in
    let same : c.in-Some.solved.now ≡ t = cc in
    let answer = c.answer-answer.ensures ∙ ap (λ (p : TaskView). answer_of p.scoring p.position) same in
    let checked = c.check_by.ensures ∙ ap (λ l. check_by c.in-Position.complete l c.answer-answer.result) c.deref.ensures.value in
    ap₂ Solved answer (checked ∙ ap (check_by c.in-Position.complete c.in-Position.listed.items) answer) ∙ sym (ap parsed_result c.in-Position.is)
