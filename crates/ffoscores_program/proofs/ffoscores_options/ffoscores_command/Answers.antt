use Rattle.std.proofs.Common.{◌≡◌, ◌∙◌, ap, ap₂, codes}
use Rattle.std.proofs.lemmas.Result.{IfOk-weaker}
use Rattle.clap.specs.Words.{App, app_of, with_rule}
use Rattle.program_parts.specs.CommandLine.{versioned, with_settings}
use Rattle.ffoscores_program.proofs.ffoscores_options.ffoscores_command.Goals as goal

pub returns : goal.returns
returns c =
    let s1 : App = with_settings (versioned (codes "ffoscores")) c.args.names in
    let a1 : app_of c.in_ok-with_settings.with_settings ≡ s1 =
    c.in_ok-with_settings.ensures ∙ ap (λ (a : App). with_settings a c.args.names) c.bare_command-bare.ensures in
    IfOk-weaker c.arg.result _ _ (λ r h. h.shape c.files_arg.ensures.local ∙ ap₂ with_rule a1 c.files_arg.ensures.rule) c.arg.ensures
