use Rattle.othello_bits.proofs.Permute.{swap_at}
use Rattle.othello_bits.proofs.sym.swap.Goals as goal

pub returns : goal.returns
returns c = swap_at c.args.board c.args.mask c.args.k
