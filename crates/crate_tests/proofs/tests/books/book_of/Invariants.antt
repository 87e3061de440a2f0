use Rattle.std.proofs.Common.{◌≡◌}
use Rattle.crate_tests.proofs.tests.books.book_of.Given as goal

abbrev pub invariant-loop-discs : goal.invariant-loop-discs
invariant-loop-discs g l = l.book.scoring ≡ l.fn.scoring
