use Rattle.std.proofs.Common.{◌+◌, ◌<◌, ◌∷◌, [], take, arith, append_assoc}
use Rattle.othello_rules.specs.Board.{ray, steps_to_edge, square_after}
use Rattle.othello_rules.proofs.BoardLaws.{take-ray_more}
use Rattle.othello_rules.proofs.grid.Grid.push_turned.Goals as goal

pub loop-step-preserved : goal.loop-step-preserved
loop-step-preserved c =
    let in_ray : c.loop-step.step < steps_to_edge c.args.direction c.args.from = omega arith in
    record {
      items =
          rw (c.push.ensures.items, c.loop-step.invariant.items, c.step.ensures.value, take-ray_more c.args.direction c.args.from c.loop-step.step in_ray)
          (append_assoc c.args.out.now.items (take c.loop-step.step (ray c.args.direction c.args.from))
          (square_after c.args.direction c.args.from (c.loop-step.step + 1) ∷ []));
      len = omega arith;
    }
