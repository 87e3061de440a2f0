use Rattle.std.proofs.Common.{refl}
use Rattle.othello_bits.specs.Symmetries.{others}
use Rattle.othello_bits.proofs.sym.Sym.all.Goals as goal

pub returns : goal.returns
unfolding others
returns c = refl
