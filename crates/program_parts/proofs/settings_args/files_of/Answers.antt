use Rattle.std.proofs.Common.{rules}
use Rattle.program_parts.proofs.settings_args.files_of.Goals as goal

pub returns-in-Some : goal.returns-in-Some
returns-in-Some c = search rules
