use Rattle.std.proofs.Common.{◌++◌, ap, sym, ◌∙◌, subst, false}
use Rattle.std.specs.Io.KnownBytes.{Appends}
use Rattle.std.proofs.KnownBytes.{Appends-trans}
use Rattle.obf_text.specs.Pieces.{line_pieces}
use Rattle.scored_lines.specs.Remarks.{left_out_remarks, remarks, remarks_text}
use Rattle.scored_lines.proofs.RemarkSteps.{remarks_both}
use Rattle.scored_lines.proofs.Results.{on_ok}
use Rattle.scored_lines.proofs.remarks.write_line_remarks.Goals as goal

pub returns-clause-written : goal.returns-clause-written
returns-clause-written g c =
    let scores = c.args.scores.now in
    let first = remarks scores (line_pieces c.args.line.now) in
    let more = left_out_remarks c.args.complete scores c.args.listed.now in
    let old = g.W.Write.contents c.args.writer.now in
    let new = g.W.Write.contents c.write_left_out_remarks.new.writer in
    on_ok c.write_left_out_remarks.result _ _
    (λ ok w. subst (Appends old new)
    (ap (λ b. remarks_text false first ++ remarks_text b more) c.in_ok-found.ensures.found
    ∙ sym (remarks_both false first more))
    (Appends-trans old _ new (remarks_text false first) (remarks_text c.in_ok-found.found more)
    c.in_ok-found.ensures.written w))
    c.write_left_out_remarks.ensures.written
