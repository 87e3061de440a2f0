use Rattle.std.proofs.Common.{rules}
use Rattle.program_settings.proofs.settings.Settings.new.Goals as goal

pub returns-then-max_empties-gt-MOST_EMPTIES-clause-within : goal.returns-then-max_empties-gt-MOST_EMPTIES-clause-within
returns-then-max_empties-gt-MOST_EMPTIES-clause-within c = search rules
