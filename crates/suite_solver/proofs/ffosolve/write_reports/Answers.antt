use Rattle.std.proofs.Common.{◌≡◌, ◌++◌, ◌+◌, arith, drop}
use Rattle.std.specs.List.{concat}
use Rattle.std.proofs.lemmas.Grind.{common_steps}
use Rattle.obf_text.specs.LineText.{texts_of}
use Rattle.written_bytes.proofs.WrittenParts.{next_piece, stops_in_piece}
use Rattle.suite_solver.proofs.ffosolve.write_reports.Goals as goal

pub returns-in_err-send-clause-front : goal.returns-in_err-send-clause-front
returns-in_err-send-clause-front g c =
    let reports = c.args.reports.now in
    let i = c.loop-report.report-index in
    let report = c.report-item.result.items in
    let cut : concat (texts_of (drop i reports)) ≡ report ++ concat (texts_of (drop (i + 1) reports)) = grind (arith, common_steps) in
    stops_in_piece c.from_residual.result _ _ _ report _ _ _ cut c.loop-report.invariant (rw c.deref.ensures.value at c.in_err-send.ensures.front)

pub loop-report-preserved : goal.loop-report-preserved
loop-report-preserved g c =
    let reports = c.args.reports.now in
    let i = c.loop-report.report-index in
    let report = c.report-item.result.items in
    let cut : concat (texts_of (drop i reports)) ≡ report ++ concat (texts_of (drop (i + 1) reports)) = grind (arith, common_steps) in
    next_piece _ _ _ report _ _ _ cut c.loop-report.invariant (rw c.deref.ensures.value at c.in_ok-send.ensures.written)
