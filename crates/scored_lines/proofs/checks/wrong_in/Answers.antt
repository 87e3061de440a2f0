use Rattle.std.proofs.Common.{rules}
use Rattle.scored_lines.proofs.checks.wrong_in.Goals as goal

pub returns-then-score-field : goal.returns-then-score-field
returns-then-score-field c = search rules
