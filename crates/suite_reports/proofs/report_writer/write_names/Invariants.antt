use Rattle.std.proofs.Common.{drop}
use Rattle.std.specs.List.{flat_map}
use Rattle.suite_reports.specs.ReportText.{comma_name, names_text}
use Rattle.obf_text.proofs.WriterLemmas.{Completes}
use Rattle.suite_reports.proofs.report_writer.write_names.Given as goal

-- the names that are left complete the text
abbrev pub invariant-loop-square : goal.invariant-loop-square
invariant-loop-square g l =
    Completes (g.W.Write.contents l.fn.writer) (g.W.Write.contents l.writer)
    (flat_map comma_name (drop l.square-index l.rest)) (names_text l.fn.squares)
