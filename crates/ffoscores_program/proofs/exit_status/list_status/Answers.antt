use Rattle.std.proofs.Common.{ap, sym}
use Rattle.ffoscores_program.specs.Lists.{list_status_of}
use Rattle.ffoscores_program.proofs.exit_status.list_status.Goals as goal

pub returns-in-BadWords : goal.returns-in-BadWords
returns-in-BadWords c = sym (ap list_status_of c.in-BadWords.is)
