use Rattle.std.proofs.Common.{rules}
use Rattle.program_parts.proofs.settings_args.bare_command.Goals as goal

pub returns : goal.returns
returns c = search rules
