use Rattle.std.proofs.Common.{rules}
use Rattle.solved_book.proofs.KeptEntries.{book_empty}
use Rattle.solved_book.proofs.book.Book.new.Goals as goal

pub invariant_of-result : goal.invariant_of-result
invariant_of-result c = rw c.new.ensures.empty (book_empty c.args.scoring)

pub returns : goal.returns
returns c = search rules
