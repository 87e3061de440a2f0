use Rattle.std.proofs.Common.{None}
use Rattle.solved_book.proofs.LineLaws.{fault_after}
use Rattle.solved_book.proofs.laws.first_fault_decides.Goals as goal

pub returns : goal.returns
returns c = λ front rest line claims f h e. fault_after front rest line 1 None claims f h e
