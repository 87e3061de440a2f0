use Rattle.std.proofs.Common.{◌≡◌, false}
use Rattle.std.specs.Prelude.{◌||◌}
use Rattle.obf_text.specs.Pieces.{line_pieces}
use Rattle.obf_text.proofs.WriterLemmas.{Completes}
use Rattle.scored_lines.specs.Remarks.{has_remarks, remarks, remarks_text}
use Rattle.scored_lines.proofs.remarks.write_remarks.Given as goal

abbrev pub invariant-loop-piece : goal.invariant-loop-piece
invariant-loop-piece g l = record {
  text : Completes (g.W.Write.contents l.fn.writer) (g.W.Write.contents l.writer)
      (remarks_text l.found (remarks l.scores l.piece-iterator))
      (remarks_text false (remarks l.fn.scores (line_pieces l.fn.line)));
  found : (l.found || has_remarks (remarks l.scores l.piece-iterator)) ≡ has_remarks
      (remarks l.fn.scores (line_pieces l.fn.line));
}
