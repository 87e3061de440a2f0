use Rattle.std.proofs.Common.{◌∙◌, inr, map}
use Rattle.obf_text.specs.LineText.{texts_of}
use Rattle.program_settings.specs.Settings.{criteria_of}
use Rattle.suite_runs.proofs.PartLemmas.{outcome_reports}
use Rattle.suite_runs.proofs.RunLemmas.{none_refused}
use Rattle.suite_runs.specs.Part.{part_view_of}
use Rattle.suite_solver.proofs.ProgramLemmas.{book_of_files}
use Rattle.suite_solver.proofs.ffosolve.solve_and_print.Goals as goal

pub returns-in-Ok-clause-book : goal.returns-in-Ok-clause-book
returns-in-Ok-clause-book g c =
    book_of_files _ _ _ c.in_ok-solved.solved c.in_ok-solved.ensures.solved.1 c.in_ok-book.ensures.text

pub returns-in-Ok-clause-reported : goal.returns-in-Ok-clause-reported
returns-in-Ok-clause-reported g c =
    let settings = c.args.asked.now.settings in
    let texts = texts_of c.args.texts.now in
    let solved = c.in_ok-solved.ensures.solved in
    let within = none_refused texts solved.0 in
    let written = rw c.deref.ensures.value at c.in-Ok.ensures.written in
    let reports =
    c.in_ok-reports.ensures ∙ outcome_reports (map part_view_of c.in_ok-solved.solved.parts.items) settings.scoring
    (criteria_of settings) texts solved.1.parts in
    record {
      few = within.0;
      small = within.1;
      written = rw reports at written;
    }

pub returns-clause-front : goal.returns-clause-front
returns-clause-front g c =
    let settings = c.args.asked.now.settings in
    let texts = texts_of c.args.texts.now in
    let solved = c.in_ok-solved.ensures.solved in
    let within = none_refused texts solved.0 in
    let written = rw c.deref.ensures.value at c.in-Err.ensures.front in
    let reports =
    c.in_ok-reports.ensures ∙ outcome_reports (map part_view_of c.in_ok-solved.solved.parts.items) settings.scoring
    (criteria_of settings) texts solved.1.parts in
    inr (record {
      few = within.0;
      small = within.1;
      front = rw reports at written;
    })
