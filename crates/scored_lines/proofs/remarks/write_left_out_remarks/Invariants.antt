use Rattle.std.proofs.Common.{◌≡◌, drop}
use Rattle.std.specs.List.{filter_map}
use Rattle.std.specs.Prelude.{◌||◌}
use Rattle.obf_text.proofs.WriterLemmas.{Completes}
use Rattle.scored_lines.specs.Remarks.{has_remarks, left_out_remark, remarks_text}
use Rattle.scored_lines.proofs.remarks.write_left_out_remarks.Given as goal

abbrev pub invariant-loop-field : goal.invariant-loop-field
invariant-loop-field g l = record {
  text : Completes (g.W.Write.contents l.fn.writer) (g.W.Write.contents l.writer)
      (remarks_text l.any (filter_map (left_out_remark l.scores l.listed) (drop l.field-index l.scores)))
      (remarks_text l.fn.found (filter_map (left_out_remark l.scores l.listed) l.fn.scores));
  found : (l.any || has_remarks
      (filter_map (left_out_remark l.scores l.listed) (drop l.field-index l.scores)))
      ≡ (l.fn.found || has_remarks (filter_map (left_out_remark l.scores l.listed) l.fn.scores));
}
