use Rattle.std.proofs.Common.{◌≡◌, ◌∙◌, sym}
use Rattle.std.proofs.lemmas.Result.{err_from_is_err_and}
use Rattle.obf_text.specs.LineText.{texts_of}
use Rattle.suite_runs.specs.Runs.{Solves}
use Rattle.suite_runs.specs.declared.run_fault.RunFault.TheVariants.{Mixed}
use Rattle.suite_runs.proofs.RunLemmas.{refused_answers, refused_unmixed}
use Rattle.suite_runs.proofs.runs.run_files.Goals as goal

pub returns-in_err-check_files-clause-answers : goal.returns-in_err-check_files-clause-answers
returns-in_err-check_files-clause-answers c =
    let p = err_from_is_err_and c.from_residual.result c.from_residual.ensures.1 in
    rw p.1 (refused_answers (Solves c.args.settings.now (texts_of c.args.files.now)) c.in_err-check_files.field-0.0 p.0
    (texts_of c.args.files.now) c.in_err-check_files.ensures.refuses p.2)

pub returns-in_err-check_files-clause-unmixed : goal.returns-in_err-check_files-clause-unmixed
returns-in_err-check_files-clause-unmixed c =
    let p = err_from_is_err_and c.from_residual.result c.from_residual.ensures.1 in
    λ h. let same : p.0 ≡ Mixed = (let both = sym p.1 ∙ h in cc) in refused_unmixed c.in_err-check_files.field-0.0 p.0 p.2 same
