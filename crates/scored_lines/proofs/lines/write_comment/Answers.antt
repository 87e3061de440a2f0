use Rattle.std.proofs.Common.{arith}
use Rattle.std.proofs.lemmas.Grind.{common_steps}
use Rattle.scored_lines.proofs.lines.write_comment.Goals as goal

pub returns : goal.returns
returns g c = grind (arith, common_steps)
