use Rattle.othello_rules.proofs.RayLaws.{ray-edge, ray-onward}
use Rattle.othello_rules.proofs.laws.rays_go_step_by_step.Goals as goal

pub returns : goal.returns
returns c = record {
  edge = ray-edge;
  onward = ray-onward;
}
