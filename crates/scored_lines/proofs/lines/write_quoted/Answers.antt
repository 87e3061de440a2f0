use Rattle.std.proofs.Common.{arith}
use Rattle.std.proofs.lemmas.Grind.{common_steps}
use Rattle.scored_lines.specs.Lines.{quoted_text}
use Rattle.scored_lines.proofs.lines.write_quoted.Goals as goal

pub returns : goal.returns
unfolding quoted_text
returns g c = grind (arith, common_steps)
