-- The claims are those of the lines so far.
use Rattle.std.specs.Prelude.{IfSome}
use Rattle.book_files.proofs.LineReading.{ReadsTo}
use Rattle.book_files.proofs.books.claims_in.Given as goal

abbrev pub invariant-loop-number : goal.invariant-loop-number
invariant-loop-number g l =
    IfSome (g.R.Read.remaining l.fn.reader)
    (λ text. ReadsTo text l.claims l.number l.whole l.line.items (g.R.Read.remaining l.reader))
