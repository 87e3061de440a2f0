use Rattle.std.proofs.Common.{◌≡◌, rules}
use Rattle.program_parts.specs.Inputs.{names_of}
use Rattle.obf_text.specs.LineText.{texts_of}
use Rattle.suite_solver.specs.Programs.{PrintsReportsOf, StopsReports}
use Rattle.suite_solver.proofs.LimitLemmas.{book_unlimited, read_unlimited, written_unlimited}
use Rattle.suite_solver.proofs.ProgramLemmas.{booked, not_refused, on_err, on_ok, error_late, stops_at_end, stops_of_files}
use Rattle.program_parts.proofs.EndingLemmas.{whole_texts}
use Rattle.suite_solver.proofs.ffosolve.carry_out.Goals as goal

pub returns-clause-reported : goal.returns-clause-reported
returns-clause-reported g c =
    let names = names_of c.args.asked.now.files.items in
    let given = g.R.Read.remaining c.args.input.now in
    let texts = texts_of c.in_ok-texts.texts.items in
    let fronts = rw c.deref.ensures.value at c.in_ok-texts.ensures.ok in
    let p = rw c.deref-3.ensures.value at c.in_ok-book.ensures.reported in
    on_ok c.write_book.result (PrintsReportsOf c.args.asked.now.settings names given
    (g.W.Write.contents c.args.output.now) (g.W.Write.contents c.solve_and_print.new.output)) (record {
      texts = texts;
      read = whole_texts names given texts fronts p.small p.few;
      printed = p;
    })

pub returns-clause-booked : goal.returns-clause-booked
returns-clause-booked g c =
    let names = names_of c.args.asked.now.files.items in
    let given = g.R.Read.remaining c.args.input.now in
    let texts = texts_of c.in_ok-texts.texts.items in
    let fronts = rw c.deref.ensures.value at c.in_ok-texts.ensures.ok in
    let p = rw c.deref-3.ensures.value at c.in_ok-book.ensures.reported in
    booked c.write_book.result (PrintsReportsOf c.args.asked.now.settings names given
    (g.W.Write.contents c.args.output.now) (g.W.Write.contents c.solve_and_print.new.output)) (record {
      texts = texts;
      read = whole_texts names given texts fronts p.small p.few;
      printed = p;
    })

pub returns-clause-stopped : goal.returns-clause-stopped
returns-clause-stopped g c =
    let names = names_of c.args.asked.now.files.items in
    let given = g.R.Read.remaining c.args.input.now in
    let texts = texts_of c.in_ok-texts.texts.items in
    let fronts = rw c.deref.ensures.value at c.in_ok-texts.ensures.ok in
    let p = rw c.deref-3.ensures.value at c.in_ok-book.ensures.reported in
    on_err c.write_book.result (StopsReports c.args.asked.now.settings names given
    (g.W.Write.contents c.args.output.now) (g.W.Write.contents c.solve_and_print.new.output))
    (stops_at_end _ _ _ _ _ (record {
      texts = texts;
      read = whole_texts names given texts fronts p.small p.few;
      printed = p;
    }))

pub returns-in_err-book-clause-stopped : goal.returns-in_err-book-clause-stopped
returns-in_err-book-clause-stopped g c =
    let texts = texts_of c.in_ok-texts.texts.items in
    let fronts = rw c.deref.ensures.value at c.in_ok-texts.ensures.ok in
    on_err c.from_residual-in_err-book.result _
    (stops_of_files _ _ _ _ _ texts fronts (rw c.deref-3.ensures.value at c.in_err-book.ensures.front))

pub returns-in_err-claims-clause-limits : goal.returns-in_err-claims-clause-limits
returns-in_err-claims-clause-limits g c = search (rules, book_unlimited)

pub returns-in_err-texts-clause-limits : goal.returns-in_err-texts-clause-limits
returns-in_err-texts-clause-limits g c = search (rules, read_unlimited)

pub returns-clause-limits : goal.returns-clause-limits
returns-clause-limits g c = written_unlimited c.write_book.result _ c.write_book.ensures.late

pub returns-clause-silent : goal.returns-clause-silent
returns-clause-silent g c =
    error_late c.write_book.result (g.W.Write.contents c.solve_and_print.new.output ≡ g.W.Write.contents c.args.output.now) c.write_book.ensures.late

pub returns-clause-unwritten : goal.returns-clause-unwritten
returns-clause-unwritten g c =
    not_refused c.write_book.result (g.W.Write.contents c.solve_and_print.new.output ≡ g.W.Write.contents c.args.output.now) c.write_book.ensures.status
