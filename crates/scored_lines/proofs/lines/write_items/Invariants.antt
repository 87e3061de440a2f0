use Rattle.std.proofs.Common.{◌≡◌, ◌&&◌}
use Rattle.obf_text.specs.LineText.{lines_of}
use Rattle.obf_text.proofs.WriterLemmas.{Completes}
use Rattle.scored_lines.specs.Lines.{are_right, lines_text, scores_text}
use Rattle.scored_lines.proofs.lines.write_items.Given as goal

abbrev pub invariant-loop-line : goal.invariant-loop-line
invariant-loop-line g l = record {
  text : Completes (g.W.Write.contents l.fn.writer) (g.W.Write.contents l.writer)
      (lines_text (g.T.Bounds.scoring l.table) l.criteria l.line-iterator)
      (scores_text (g.T.Bounds.scoring l.table) l.criteria l.fn.text);
  right : (l.right && are_right (g.T.Bounds.scoring l.table) l.criteria l.line-iterator)
      ≡ are_right (g.T.Bounds.scoring l.table) l.criteria (lines_of l.fn.text);
}
