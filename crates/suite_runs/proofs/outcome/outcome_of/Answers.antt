use Rattle.std.proofs.Common.{◌∙◌, map, subst}
use Rattle.suite_runs.specs.Outcome.{IsBookOf, tasks_of_views}
use Rattle.program_settings.specs.Settings.{criteria_of}
use Rattle.suite_runs.specs.Part.{part_view_of}
use Rattle.suite_runs.proofs.PartLemmas.{outcome_reports, outcome_tasks}
use Rattle.suite_runs.proofs.outcome.outcome_of.Goals as goal

pub returns : goal.returns
returns c =
    let ys = map part_view_of c.args.files.now.parts.items in
    λ settings texts solved.
    let by = criteria_of settings in
    record {
      reports = c.in_ok-reports.ensures ∙ outcome_reports ys settings.scoring by texts solved.parts;
      book = subst (λ l. IsBookOf settings.scoring l c.in_ok-book.field-0) (outcome_tasks ys settings.scoring by texts solved.parts)
          (subst (λ g. IsBookOf g (tasks_of_views ys) c.in_ok-book.field-0) solved.scoring c.in_ok-book.ensures);
    }
