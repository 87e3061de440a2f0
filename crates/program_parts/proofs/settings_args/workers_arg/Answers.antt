use Rattle.std.proofs.Common.{◌≡◌, ◌∙◌, ap, codes, refl, rules}
use Rattle.std.specs.Fmt.{digits}
use Rattle.program_settings.specs.Limits.{default_workers, most_workers}
use Rattle.program_parts.specs.CommandLine.{number_rule}
use Rattle.program_parts.proofs.settings_args.workers_arg.Goals as goal

pub returns-clause-rule : goal.returns-clause-rule
unfolding digits
returns-clause-rule c =
    let most : c.from.result ≡ most_workers = search rules in
    c.number_arg.ensures.rule default_workers refl ∙ ap (λ n. number_rule (codes "workers") n default_workers) most
