use Rattle.std.proofs.Common.{refl}
use Rattle.solved_book.proofs.book.Book.scoring.Goals as goal

pub returns : goal.returns
returns c = search refl
