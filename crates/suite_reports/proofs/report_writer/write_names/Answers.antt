use Rattle.std.proofs.Common.{◌-◌, ◌∙◌, length, take, drop, ap}
use Rattle.std.specs.List.{flat_map}
use Rattle.othello_rules.specs.Board.{name_of}
use Rattle.suite_reports.specs.ReportText.{comma_name}
use Rattle.suite_reports.proofs.NameLemmas.{names_first, names_none}
use Rattle.std.proofs.KnownBytes.{Appends-nil}
use Rattle.obf_text.proofs.WriterLemmas.{completes_more, completes_start}
use Rattle.suite_reports.proofs.report_writer.write_names.Goals as goal

pub returns-in_default : goal.returns-in_default
returns-in_default g c = rw (names_none c.args.squares.now c.in_default.len_below) (Appends-nil _)

pub loop-square-init : goal.loop-square-init
loop-square-init g c =
    let squares = c.args.squares.now in
    let first = c.first-item.result in
    let others = flat_map comma_name (take (length squares - 1) (drop 1 squares)) in
    let text = names_first squares first c.in-len1-up.len_at_least in
    let name = c.name.ensures ∙ ap name_of c.first-item.is in
    let written = rw name at c.in_ok-write_all.ensures.bytes in
    rw text (completes_more _ _ _ (name_of _) others _ (completes_start _ _) written)
