use Rattle.std.proofs.Common.{◌∷◌, [], ◌++◌, sym, ◌∙◌, ap, ap₂}
use Rattle.std.specs.List.{cons_option}
use Rattle.std.specs.Slice.Iter.{iter_rest}
use Rattle.std.proofs.lemmas.List.{map_more}
use Rattle.suite_reports.specs.ParsedLine.{row_in, task_in}
use Rattle.suite_reports.specs.declared.report_row.ReportRow.{ReportRow}
use Rattle.suite_reports.specs.Rows.{report_row}
use Rattle.suite_reports.specs.declared.numbered_line.NumberedLine.{NumberedLine}
use Rattle.suite_reports.proofs.TaskLemmas.{answers_left, next_answer}
use Rattle.suite_reports.proofs.numbered_line.rows_of.Goals as goal

pub loop-numbered-init : goal.loop-numbered-init
loop-numbered-init c = record { rows = c.new-rows.ensures.items; answers = c.iter-answers.ensures.rest ∙ c.requires }

pub result-requires : goal.result-requires
result-requires c = λ task e.
    next_answer c.args.lines.now c.loop-numbered.numbered-index c.numbered-item.result c.loop-numbered-test.true
    (iter_rest c.loop-numbered.answers) task c.loop-numbered.invariant.answers
    (sym (ap (λ (n : NumberedLine). task_in n.parsed) c.numbered-item.is) ∙ e)

pub loop-numbered-preserved : goal.loop-numbered-preserved
loop-numbered-preserved c =
    let lines = c.args.lines.now in
    let i = c.loop-numbered.numbered-index in
    let item = c.numbered-item.result in
    let later = iter_rest c.result.new.answers in
    let row = ap (report_row item.number) c.result.ensures.result ∙ ap row_in c.numbered-item.is in
    record {
      rows = c.in_ok-push.ensures.items ∙ ap₂ (λ l (r : ReportRow). l ++ r ∷ []) c.loop-numbered.invariant.rows row
          ∙ sym (map_more row_in lines i item c.loop-numbered-test.true);
      answers = answers_left lines i item c.loop-numbered-test.true (iter_rest c.loop-numbered.answers) later c.loop-numbered.invariant.answers
          (c.result.ensures.left ∙ ap (λ (n : NumberedLine). cons_option (task_in n.parsed) later) c.numbered-item.is);
    }
