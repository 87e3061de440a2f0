use Rattle.std.proofs.Common.{refl}
use Rattle.std.specs.Fmt.{digits}
use Rattle.program_settings.specs.Limits.{default_entries}
use Rattle.program_parts.proofs.settings_args.table_arg.Goals as goal

pub returns-clause-rule : goal.returns-clause-rule
unfolding digits
returns-clause-rule c = c.number_arg.ensures.rule default_entries refl
