use Rattle.std.proofs.Common.{ap, ◌∙◌}
use Rattle.othello_bits.specs.Pos.{answer_of}
use Rattle.endgame_search.proofs.solved.Solved.answer.Goals as goal

pub returns : goal.returns
returns c = c.self.invariant ∙ ap (λ p. answer_of p.scoring p.position) c.self.view_is
