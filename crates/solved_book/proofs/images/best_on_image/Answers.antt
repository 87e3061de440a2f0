use Rattle.std.proofs.Common.{rules}
use Rattle.solved_book.proofs.images.best_on_image.Goals as goal

pub returns-in-Moves : goal.returns-in-Moves
returns-in-Moves c = search rules
