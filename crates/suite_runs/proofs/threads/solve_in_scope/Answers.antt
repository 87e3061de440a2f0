use Rattle.std.proofs.Common.{◌∙◌, length, map, ap, arith}
use Rattle.std.proofs.lemmas.Grind.{common_steps}
use Rattle.std.proofs.lemmas.List.{take_all}
use Rattle.obf_text.specs.LineText.{texts_of}
use Rattle.program_settings.specs.Settings.{criteria_of}
use Rattle.program_settings.proofs.InputFaultLemmas.{small_at}
use Rattle.suite_runs.specs.Part.{part_view}
use Rattle.suite_runs.proofs.JoinLemmas.{parts_given}
use Rattle.suite_runs.proofs.threads.solve_in_scope.Goals as goal

pub start-requires-after_bounds : goal.start-requires-after_bounds
start-requires-after_bounds g c κs within =
    let small = small_at c.args.files.now c.loop-file.file-index c.file-item.result c.requires.small c.loop-file-test.true in
    let same = ap (λ v. length v.items) c.file-item.is in
    rw c.deref.ensures.value (omega arith)

pub loop-file-preserved : goal.loop-file-preserved
loop-file-preserved g c = grind (arith, common_steps)

pub returns : goal.returns
returns g c =
    let scoring = c.args.crew.now.shared.now.table.scoring in
    let by = criteria_of c.args.crew.now.shared.now.settings in
    let files = c.args.files.now in
    parts_given scoring by (texts_of files) c.loop-file.clients.items c.join_all.new.joined.parts c.join_all.new.joined.fault c.into_parts.result
    (c.loop-file.invariant.started ∙ ap (λ l. map (part_view scoring by) (texts_of l)) (take_all c.loop-file.file-index files c.loop-file-test.false))
    c.join_all.ensures c.into_parts.ensures.ok c.into_parts.ensures.err
