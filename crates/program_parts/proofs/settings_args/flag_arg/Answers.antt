use Rattle.std.proofs.Common.{rules}
use Rattle.program_parts.proofs.settings_args.flag_arg.Goals as goal

pub returns-clause-rule : goal.returns-clause-rule
returns-clause-rule c = search rules
