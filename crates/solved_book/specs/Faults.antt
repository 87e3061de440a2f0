-- What is printed for a text that is not a book.
use Rattle.std.specs.Prelude.{ℕ, List, ◌++◌, codes}
use Rattle.std.specs.Fmt.{decimal}
use Rattle.obf_text.specs.Faults.{line_fault_text}
use Rattle.solved_book.specs.declared.book_fault.BookFault.{BookFault}
use Rattle.solved_book.specs.declared.book_fault.BookFault.TheVariants.{Line, NoMoves, Unsorted, NotCanonical, Memory, Header}

unfoldable pub book_fault_text : BookFault → List ℕ
book_fault_text (Line n fault) =
    codes "book line " ++ (decimal n ++ (codes ": " ++ line_fault_text fault))
book_fault_text (NoMoves n) = codes "book line " ++ (decimal n ++ codes ": no moves")
book_fault_text (Unsorted n) = codes "book line " ++ (decimal n ++ codes ": not in order")
book_fault_text (NotCanonical n) = codes "book line " ++ (decimal n ++ codes ": not canonical")
book_fault_text Memory = codes "out of memory"
book_fault_text Header = codes "book line 1: unknown header"
