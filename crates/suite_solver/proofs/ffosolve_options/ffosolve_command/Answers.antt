use Rattle.std.proofs.Common.{◌≡◌, ◌∙◌, ap, ap₂, codes}
use Rattle.std.proofs.lemmas.Result.{IfOk-weaker}
use Rattle.clap.specs.Words.{App, app_of, with_rule}
use Rattle.program_parts.specs.CommandLine.{flag_rule, versioned, with_settings}
use Rattle.suite_solver.specs.Options.{book_rule}
use Rattle.suite_solver.proofs.ffosolve_options.ffosolve_command.Goals as goal

pub returns : goal.returns
returns c =
    let s1 : App = with_settings (versioned (codes "ffosolve")) c.args.names in
    let s2 : App = with_rule s1 (book_rule (codes "book-in")) in
    let s3 : App = with_rule s2 (book_rule (codes "book-out")) in
    let s4 : App = with_rule s3 (flag_rule (codes "progress")) in
    let a1 : app_of c.in_ok-for_runs.for_runs ≡ s1 = c.in_ok-for_runs.ensures ∙ ap (λ (a : App). with_settings a c.args.names) c.bare_command-bare.ensures in
    let a2 : app_of c.in_ok-reading_books.reading_books ≡ s2 =
    c.in_ok-reading_books.ensures.shape c.book_arg-book_in.ensures.local ∙ ap₂ with_rule a1 c.book_arg-book_in.ensures.rule in
    let a3 : app_of c.in_ok-writing_books.writing_books ≡ s3 =
    c.in_ok-writing_books.ensures.shape c.book_arg-book_out.ensures.local ∙ ap₂ with_rule a2 c.book_arg-book_out.ensures.rule in
    let a4 : app_of c.in_ok-reporting.reporting ≡ s4 =
    c.in_ok-reporting.ensures.shape c.flag_arg-progress.ensures.local ∙ ap₂ with_rule a3 c.flag_arg-progress.ensures.rule in
    IfOk-weaker c.arg-4.result _ _ (λ r h. h.shape c.files_arg.ensures.local ∙ ap₂ with_rule a4 c.files_arg.ensures.rule) c.arg-4.ensures
