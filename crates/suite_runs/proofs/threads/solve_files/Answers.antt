use Rattle.std.proofs.Common.{refl}
use Rattle.program_settings.specs.Settings.{criteria_of}
use Rattle.suite_runs.proofs.PartLemmas.{parts_fit}
use Rattle.suite_runs.proofs.threads.solve_files.Goals as goal

pub invariant_of-result : goal.invariant_of-result
invariant_of-result g c =
    let s = c.args.settings.now in
    let fit =
    parts_fit c.in_ok-parts.parts.items c.scoring-2.result s.scoring (criteria_of s) c.args.files.now
    (c.in_ok-check_files.ensures.few refl) c.scoring-2.ensures
    (rw (c.in_ok-shared.ensures.scoring, c.in_ok-shared.ensures.settings) at c.in_ok-parts.ensures.1) in
    record { few = fit.0; scored = fit.1 }
