use Rattle.std.proofs.Common.{◌≡◌, subst}
use Rattle.std.specs.Prelude.{IfOk, OnOk, false}
use Rattle.std.specs.Io.KnownBytes.{Appends}
use Rattle.obf_text.specs.Obf.{item_of}
use Rattle.obf_text.specs.Faults.{line_fault_text}
use Rattle.scored_lines.specs.Lines.{is_right, out_text, refused_text}
use Rattle.scored_lines.proofs.LineSteps.{out_fault, out_skip, right_fault, right_skip, said_fault}
use Rattle.scored_lines.proofs.LineSteps.{said_skip}
use Rattle.scored_lines.proofs.Results.{if_ok, on_ok}
use Rattle.scored_lines.proofs.lines.write_item.Goals as goal

pub returns-in-Ok-Skip-clause-written : goal.returns-in-Ok-Skip-clause-written
returns-in-Ok-Skip-clause-written g c =
    let line = c.args.line.now in
    subst (λ t. OnOk c.write_skipped.result
    (Appends (g.W.Write.contents c.args.writer.now)
    (g.W.Write.contents c.write_skipped.new.writer) t))
    (out_skip (g.T.Bounds.scoring c.args.table.now) c.args.criteria line (item_of line)
    (said_skip c.in-Ok-Skip.field-0 (item_of line) c.in-Ok-Skip.field-0-is
    c.in-Ok-Skip.ensures.exact))
    c.write_skipped.ensures.written

pub returns-in-Ok-Skip-clause-right : goal.returns-in-Ok-Skip-clause-right
returns-in-Ok-Skip-clause-right g c =
    let line = c.args.line.now in
    subst (λ b. IfOk c.write_skipped.result (λ r. r ≡ b))
    (right_skip (g.T.Bounds.scoring c.args.table.now) c.args.criteria line (item_of line)
    (said_skip c.in-Ok-Skip.field-0 (item_of line) c.in-Ok-Skip.field-0-is
    c.in-Ok-Skip.ensures.exact))
    c.write_skipped.ensures.right

pub returns-in-Err-clause-written : goal.returns-in-Err-clause-written
returns-in-Err-clause-written g c =
    let s = g.T.Bounds.scoring c.args.table.now in
    let line = c.args.line.now in
    let old = g.W.Write.contents c.args.writer.now in
    let new = g.W.Write.contents c.write_refused.new.writer in
    on_ok c.write_refused.result (Appends old new (refused_text (line_fault_text c.in-Err.fault) line))
    (Appends old new (out_text s c.args.criteria line (item_of line)))
    (λ ok. subst (Appends old new)
    (out_fault s c.args.criteria line (item_of line) c.in-Err.fault
    (said_fault c.in-Err.fault (item_of line) (c.write_refused.ensures.not_memory ok)
    c.in-Err.ensures.exact)))
    c.write_refused.ensures.written

pub returns-in-Err-clause-right : goal.returns-in-Err-clause-right
returns-in-Err-clause-right g c =
    let s = g.T.Bounds.scoring c.args.table.now in
    let line = c.args.line.now in
    if_ok c.write_refused.result (λ r. r ≡ false)
    (λ r. r ≡ is_right s c.args.criteria line (item_of line))
    (λ ok r. subst (λ b. r ≡ b)
    (right_fault s c.args.criteria line (item_of line) c.in-Err.fault
    (said_fault c.in-Err.fault (item_of line) (c.write_refused.ensures.not_memory ok)
    c.in-Err.ensures.exact)))
    c.write_refused.ensures.right
