use Rattle.othello_bits.proofs.Permute.{exchange_at}
use Rattle.othello_bits.proofs.sym.exchange.Goals as goal

pub returns : goal.returns
returns c = exchange_at c.args.board c.args.mask c.args.k
