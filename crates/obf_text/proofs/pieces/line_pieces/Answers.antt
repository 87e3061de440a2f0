use Rattle.std.proofs.Common.{rules}
use Rattle.obf_text.specs.Pieces.{line_pieces}
use Rattle.obf_text.proofs.pieces.line_pieces.Goals as goal

pub returns : goal.returns
unfolding line_pieces
returns c = rw (c.pieces_of.ensures, c.behind_side.ensures, c.behind.ensures) (search rules)
