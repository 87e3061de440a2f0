use Rattle.std.proofs.Common.{rules}
use Rattle.othello_bits.proofs.canonical.Image.least.Goals as goal

pub returns-then-other-self-3 : goal.returns-then-other-self-3
returns-then-other-self-3 c = search rules
