use Rattle.std.proofs.Common.{◌∙◌, subst, sym}
use Rattle.book_files.specs.BookLines.{IsFrontOf}
use Rattle.book_files.proofs.LineReading.{front_faulty, read_on}
use Rattle.book_files.proofs.books.read_rest.Goals as goal

pub returns-in-Some-fault_of_front : goal.returns-in-Some-fault_of_front
returns-in-Some-fault_of_front g c = λ text is.
    front_faulty text c.args.line.now.items _ c.in-Some-fault_of_front.fault c.in-Some.field-0-0.now c.in-Some.front.now
    (subst (λ w. IsFrontOf text w c.args.line.now.items (g.R.Read.remaining c.args.reader.now)) c.if-whole.false is)
    (sym c.deref.ensures.value ∙ c.in-Some.ensures.cases.0) c.in-Some-fault_of_front.ensures.stays

pub returns : goal.returns
returns g c = λ text is.
    read_on text c.args.line.now.items _ _ _
    (subst (λ w. IsFrontOf text w c.args.line.now.items (g.R.Read.remaining c.args.reader.now)) c.if-whole.false is)
    c.in_ok-read_until.ensures.bytes c.in_ok-read_until.ensures.rest
