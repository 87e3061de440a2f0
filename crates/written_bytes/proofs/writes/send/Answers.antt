use Rattle.written_bytes.proofs.WrittenParts.{prints_both, stops}
use Rattle.written_bytes.proofs.writes.send.Goals as goal

pub returns-in_err-rest-clause-front : goal.returns-in_err-rest-clause-front
returns-in_err-rest-clause-front g c =
    stops c.from_residual.result _ _ _ c.loop.rest.now c.args.bytes.now c.loop.invariant
    c.in_err-rest.ensures.front

pub loop-preserved : goal.loop-preserved
loop-preserved g c =
    prints_both _ _ _ c.loop.rest.now c.in_ok-rest.rest.now c.args.bytes.now c.loop.invariant
    c.in_ok-rest.ensures.taken
