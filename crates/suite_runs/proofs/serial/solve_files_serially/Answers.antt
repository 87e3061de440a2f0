use Rattle.std.proofs.Common.{◌∷◌, [], ◌∙◌, length, map, ap, ap₂, arith}
use Rattle.std.proofs.lemmas.List.{map-append, take_all}
use Rattle.program_settings.specs.Settings.{criteria_of}
use Rattle.obf_text.specs.LineText.{texts_of}
use Rattle.suite_runs.specs.Part.{part_view, part_view_of}
use Rattle.suite_runs.proofs.PartLemmas.{parts_fit, views_step}
use Rattle.program_settings.proofs.InputFaultLemmas.{small_at}
use Rattle.suite_runs.proofs.serial.solve_files_serially.Goals as goal

pub solve_text-requires-clause-short : goal.solve_text-requires-clause-short
solve_text-requires-clause-short c =
    let small = small_at c.args.files.now c.loop-file.file-index c.file-item.result c.requires.small c.loop-file-test.true in
    let same = ap (λ v. length v.items) c.file-item.is in
    rw c.deref.ensures.value (omega arith)

pub loop-file-preserved : goal.loop-file-preserved
loop-file-preserved c =
    let s = c.args.settings.now in
    let f = part_view s.scoring (criteria_of s) in
    let made = c.in_ok-solve_text.ensures
    ∙ ap₂ (λ g by. part_view g by c.deref.result.now) (ap (λ t. t.scoring) c.new-solver.ensures ∙ c.in_ok-table.ensures) c.criteria.ensures.value
    ∙ ap f (c.deref.ensures.value ∙ ap (λ v. v.items) c.file-item.is) in
    rw c.in_ok-push.ensures.items (map-append part_view_of c.loop-file.parts.items (c.in_ok-solve_text.field-0 ∷ [])
    ∙ views_step f c.args.files.now c.loop-file.file-index c.file-item.result (map part_view_of c.loop-file.parts.items)
    (part_view_of c.in_ok-solve_text.field-0)
    c.loop-file-test.true c.loop-file.invariant made)

pub invariant_of-result : goal.invariant_of-result
invariant_of-result c =
    let s = c.args.settings.now in
    let files = c.args.files.now in
    let fit = parts_fit c.loop-file.parts.items c.scoring.result s.scoring (criteria_of s) files c.requires.few c.scoring.ensures
    (c.loop-file.invariant ∙ ap (λ l. map (part_view s.scoring (criteria_of s)) (texts_of l)) (take_all c.loop-file.file-index files c.loop-file-test.false)) in
    record { few = fit.0; scored = fit.1 }
