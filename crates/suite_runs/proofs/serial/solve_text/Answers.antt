use Rattle.std.proofs.Common.{◌∙◌, ap}
use Rattle.std.proofs.lemmas.List.Elements.{All-same}
use Rattle.suite_reports.specs.ParsedLine.{tasks_in}
use Rattle.suite_reports.specs.Rows.{tasks}
use Rattle.suite_reports.proofs.TaskLemmas.{HasScoring, tasks_scored}
use Rattle.suite_runs.proofs.serial.solve_text.Goals as goal

pub solve_all-requires : goal.solve_all-requires
solve_all-requires g c =
    let scoring = g.T.Bounds.scoring c.args.solver.now.table.now in
    All-same (HasScoring scoring) (tasks_in c.deref.result.now) (tasks scoring c.args.criteria.limit c.args.text.now)
    (ap tasks_in c.deref.ensures.value ∙ c.in_ok-lines.ensures.tasks ∙ (λ k. tasks (c.scoring.ensures k) c.args.criteria.limit c.args.text.now))
    (tasks_scored scoring c.args.criteria.limit c.args.text.now)
