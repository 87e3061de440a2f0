use Rattle.solved_book.proofs.OneOrder.{same_order}
use Rattle.solved_book.proofs.laws.order_is_one.Goals as goal

pub returns : goal.returns
returns c = same_order
