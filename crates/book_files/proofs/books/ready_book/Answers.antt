use Rattle.std.proofs.Common.{rules}
use Rattle.book_files.proofs.books.ready_book.Goals as goal

pub returns-clause-placed : goal.returns-clause-placed
returns-clause-placed g c = search rules
