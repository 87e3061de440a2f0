use Rattle.std.proofs.Common.{rules}
use Rattle.othello_bits.proofs.sym.Sym.square.Goals as goal

pub returns : goal.returns
returns c = search rules
