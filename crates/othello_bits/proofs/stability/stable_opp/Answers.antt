use Rattle.othello_bits.specs.Pos.{discs}
use Rattle.othello_bits.proofs.StableMasks.{none-stable, more-stable}
use Rattle.othello_bits.proofs.stability.stable_opp.Goals as goal

pub loop-round-init : goal.loop-round-init
loop-round-init c = none-stable (discs c.args.own c.args.opp)

pub loop-round-preserved : goal.loop-round-preserved
loop-round-preserved c =
    more-stable c.args.own c.args.opp c.ranges.own.fits c.ranges.opp.fits c.requires c.loop-round.found c.loop-round.invariant
    c.safe_alone-column.result c.safe_alone-rising.result c.safe_alone-row.result c.safe_alone-falling.result
    c.held.result c.held-in-loop-round.result c.held-in-loop-round-2.result c.held-in-loop-round-3.result
    c.safe_alone-column.ensures c.safe_alone-rising.ensures c.safe_alone-row.ensures c.safe_alone-falling.ensures
    c.held.ensures c.held-in-loop-round.ensures c.held-in-loop-round-2.ensures c.held-in-loop-round-3.ensures
