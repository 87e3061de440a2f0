use Rattle.std.proofs.Common.{◌∙◌, ap}
use Rattle.othello_bits.specs.Pos.{moves_of}
use Rattle.ffosolve_c.proofs.calls.ffosolve_moves.Goals as goal

pub returns-in-Ok-clause-moves : goal.returns-in-Ok-clause-moves
returns-in-Ok-clause-moves c _ = c.moves.ensures.value ∙ ap moves_of c.in-Ok.ensures.value
