use Rattle.std.proofs.Common.{drop}
use Rattle.std.specs.List.{concat}
use Rattle.obf_text.specs.LineText.{texts_of}
use Rattle.written_bytes.specs.WrittenBytes.{WritesBefore}
use Rattle.suite_solver.proofs.ffosolve.write_reports.Given as goal

-- the reports that are left are still to be written
abbrev pub invariant-loop-report : goal.invariant-loop-report
invariant-loop-report g l =
    WritesBefore (g.W.Write.contents l.fn.output) (g.W.Write.contents l.output)
    (concat (texts_of (drop l.report-index l.reports))) (concat (texts_of l.reports))
