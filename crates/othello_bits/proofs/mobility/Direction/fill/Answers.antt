use Rattle.othello_bits.specs.Shifts.{back, can}
use Rattle.othello_bits.proofs.Fill.{filled}
use Rattle.othello_bits.proofs.mobility.Direction.fill.Goals as goal

pub returns : goal.returns
returns c =
    filled (can c.args.self) (back c.args.self) c.args.from c.args.within _ _ _ _ _ _ _
    c.shifted.ensures c.shifted-2.ensures c.shifted-3.ensures c.shifted-4.ensures c.shifted-5.ensures c.shifted-6.ensures c.shifted-7.ensures
