use Rattle.std.proofs.Common.{length}
use Rattle.std.proofs.lemmas.List.{length-map}
use Rattle.obf_text.specs.LineText.{texts_of}
use Rattle.suite_runs.specs.Runs.{Solves}
use Rattle.suite_runs.proofs.RunLemmas.{large_iff, many_iff}
use Rattle.suite_runs.proofs.runs.run_serial.Goals as goal

pub returns-clause-too_many : goal.returns-clause-too_many
returns-clause-too_many c =
    rw length-map at
    (many_iff (Solves c.args.settings.now (texts_of c.args.files.now)) c.run_files.result (texts_of c.args.files.now) c.run_files.ensures.answers)

pub returns-clause-too_large : goal.returns-clause-too_large
returns-clause-too_large c =
    large_iff (Solves c.args.settings.now (texts_of c.args.files.now)) c.run_files.result (length c.args.files.now) (texts_of c.args.files.now)
    (length-map c.args.files.now (λ file. file.items)) c.run_files.ensures.answers
