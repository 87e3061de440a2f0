use Rattle.std.proofs.Common.{◌∙◌, ap, ◌&&◌}
use Rattle.othello_bits.specs.Shifts.{back, can}
use Rattle.othello_bits.proofs.AllDirections.{reaches}
use Rattle.othello_bits.proofs.mobility.Direction.reached.Goals as goal

pub returns : goal.returns
returns c = λ q l.
    let b = c.opposite-back.result in
    c.shifted.ensures q ∙ ap (λ x. can b q && x) (c.fill.ensures (back b q))
    ∙ reaches c.args.self b c.opposite-back.ensures c.args.own c.args.opp c.inner.result c.requires c.inner.ensures q l
