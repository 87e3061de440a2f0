use Rattle.std.specs.List.{AllByRecursion, flat_map}
use Rattle.obf_text.proofs.WriterLemmas.{Completes}
use Rattle.solved_book.specs.Books.{IsSolvedEntry, book_text, book_line}
use Rattle.solved_book.specs.Order.{positions_in}
use Rattle.solved_book.proofs.book.Book.write.Given as goal

-- the lines of the positions that are left complete the text
abbrev pub invariant-loop-masks : goal.invariant-loop-masks
invariant-loop-masks g l = record {
  text : Completes (g.W.Write.contents l.fn.writer) (g.W.Write.contents l.writer)
      (flat_map (book_line l.self-inside.scoring) (positions_in l.masks-iterator))
      (book_text l.self-inside.scoring (positions_in l.self-inside.answers.entries));
  solved : AllByRecursion (IsSolvedEntry l.self-inside.scoring) l.masks-iterator;
}
