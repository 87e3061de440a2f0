use Rattle.std.proofs.Common.{◌≡◌, ◌∙◌, ap, ap₂, codes}
use Rattle.std.proofs.lemmas.Result.{IfOk-weaker}
use Rattle.clap.specs.Words.{App, app_of, with_rule}
use Rattle.program_settings.specs.declared.limits.TheConstants.{MOST_EMPTIES, MOST_ENTRIES, MOST_WORKERS}
use Rattle.program_settings.specs.Limits.{default_empties, default_entries, default_workers}
use Rattle.program_parts.specs.CommandLine.{number_rule, scoring_rule}
use Rattle.program_parts.proofs.settings_args.with_settings.Goals as goal

pub returns : goal.returns
returns c =
    let s1 : App = with_rule (app_of c.args.bare) (number_rule (codes "max-empties") MOST_EMPTIES default_empties) in
    let s2 : App = with_rule s1 (number_rule (codes "workers") MOST_WORKERS default_workers) in
    let s3 : App = with_rule s2 (number_rule (codes "table") MOST_ENTRIES default_entries) in
    let a1 : app_of c.in_ok-with_empties.with_empties ≡ s1 =
    c.in_ok-with_empties.ensures.shape c.max_empties_arg.ensures.local ∙ ap (with_rule (app_of c.args.bare)) c.max_empties_arg.ensures.rule in
    let a2 : app_of c.in_ok-with_workers.with_workers ≡ s2 =
    c.in_ok-with_workers.ensures.shape c.workers_arg.ensures.local ∙ ap₂ with_rule a1 c.workers_arg.ensures.rule in
    let a3 : app_of c.in_ok-with_table.with_table ≡ s3 =
    c.in_ok-with_table.ensures.shape c.table_arg.ensures.local ∙ ap₂ with_rule a2 c.table_arg.ensures.rule in
    let s4 : App = with_rule s3 (scoring_rule c.args.names) in
    let a4 : app_of c.in_ok-with_scoring.with_scoring ≡ s4 =
    c.in_ok-with_scoring.ensures.shape c.scoring_arg.ensures.local ∙ ap₂ with_rule a3 c.scoring_arg.ensures.rule in
    IfOk-weaker c.arg-5.result _ _ (λ r h. h.shape c.flag_arg.ensures.local ∙ ap₂ with_rule a4 c.flag_arg.ensures.rule) c.arg-5.ensures
