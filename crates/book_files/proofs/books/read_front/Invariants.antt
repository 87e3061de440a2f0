-- The line is what was read so far, without a line feed.
use Rattle.std.specs.Io.KnownBytes.{Consumes}
use Rattle.solved_book.specs.Reading.{NoFeeds}
use Rattle.book_files.proofs.books.read_front.Given as goal

abbrev pub invariant-loop : goal.invariant-loop
invariant-loop g l = Consumes (g.R.Read.remaining l.initial.reader) (g.R.Read.remaining l.reader) l.line.items × NoFeeds l.line.items
