use Rattle.std.proofs.Common.{rules}
use Rattle.book_files.proofs.books.write_book.Goals as goal

pub returns-in-Err-clause-late : goal.returns-in-Err-clause-late
returns-in-Err-clause-late g c = search rules
