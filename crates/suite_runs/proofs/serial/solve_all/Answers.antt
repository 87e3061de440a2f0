use Rattle.std.proofs.Common.{◌∷◌, [], ◌++◌, sym, ◌∙◌, ap}
use Rattle.endgame_search.specs.Task.{TaskView}
use Rattle.suite_reports.specs.ParsedLine.{task_in}
use Rattle.suite_reports.specs.declared.numbered_line.NumberedLine.{NumberedLine}
use Rattle.suite_reports.proofs.TaskLemmas.{HasScoring, none_taken, task_holds, task_taken}
use Rattle.suite_runs.proofs.serial.solve_all.Goals as goal
use Rattle.suite_runs.proofs.serial.solve_all.Goals.{in-Some+in_ok-push, in_default}

pub answer-requires : goal.answer-requires
answer-requires g c =
    let asked = sym (ap (λ (n : NumberedLine). task_in n.parsed) c.line-item.is) ∙ sym c.task.ensures ∙ c.in-Some.is in
    task_holds (HasScoring (g.T.Bounds.scoring c.args.solver.now.table.now)) c.args.lines.now c.loop-line.line-index c.line-item.result
    c.in-Some.task c.loop-line-test.true c.requires asked

pub loop-line-preserved : goal.loop-line-preserved
loop-line-preserved g c =
    let lines = c.args.lines.now in
    let i = c.loop-line.line-index in
    let item = c.line-item.result in
    let asked = c.task.ensures ∙ ap (λ (n : NumberedLine). task_in n.parsed) c.line-item.is in
    elim c.match-task.branch [
      | in-Some+in_ok-push w ↦
          ap (λ v. v.items) w.solved-is ∙ w.in_ok-push.ensures.items ∙ ap (λ (t : TaskView). c.loop-line.solved.items ++ t ∷ []) w.answer.ensures
          ∙ task_taken lines i item c.loop-line-test.true c.loop-line.solved.items w.in-Some.task c.loop-line.invariant (sym w.in-Some.is ∙ asked)
      | in_default w ↦
          ap (λ v. v.items) w.solved-is ∙ c.loop-line.invariant ∙ none_taken lines i item c.loop-line-test.true (sym w.in_default.is ∙ asked)
    ]
