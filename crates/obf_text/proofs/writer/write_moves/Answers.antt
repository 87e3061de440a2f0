use Rattle.std.proofs.Common.{◌∙◌}
use Rattle.obf_text.proofs.WriteSteps.{same_score, squares_end, squares_more, squares_start}
use Rattle.obf_text.proofs.writer.write_moves.Goals as goal

pub loop-square-init : goal.loop-square-init
loop-square-init g c = squares_start _ _ c.args.mask c.deref-square-items.result.now (c.deref-square-items.ensures.0 ∙ c.squares_in.ensures)

pub loop-square-preserved : goal.loop-square-preserved
loop-square-preserved g c =
    squares_more _ _ _ _ c.deref-square-items.result.now c.loop-square.square-index c.square-item.result _ c.loop-square-test.true c.square-item.is
    c.loop-square.invariant c.in_ok-write_field.ensures

pub returns : goal.returns
returns g c =
    let same = same_score c.args.score c.requires in
    squares_end _ _ c.args.score c.deref-square-items.result.now c.loop-square.square-index _ c.loop-square-test.false (rw same at c.loop-square.invariant)
