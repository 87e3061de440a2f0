use Rattle.std.proofs.Common.{◌≡◌, ◌∙◌, ap, codes, refl, rules}
use Rattle.std.specs.Fmt.{digits}
use Rattle.program_settings.specs.Limits.{default_empties, most_empties}
use Rattle.program_parts.specs.CommandLine.{number_rule}
use Rattle.program_parts.proofs.settings_args.max_empties_arg.Goals as goal

pub returns-clause-rule : goal.returns-clause-rule
unfolding digits
returns-clause-rule c =
    let most : c.from.result ≡ most_empties = search rules in
    c.number_arg.ensures.rule default_empties refl ∙ ap (λ n. number_rule (codes "max-empties") n default_empties) most
