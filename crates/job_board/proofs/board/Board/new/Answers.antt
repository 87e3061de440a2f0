use Rattle.std.proofs.Common.{[], arith, refl, sym}
use Rattle.job_board.specs.Senders.{empty_content}
use Rattle.job_board.proofs.BoardFacts.{new_board, with_ids}
use Rattle.job_board.proofs.board.Board.new.Goals as goal

pub invariant_of-result : goal.invariant_of-result
invariant_of-result c =
    rw c.made.invariant.items
    (with_ids (empty_content c.made.counter) [] c.new-2.result.jobs 0 c.new-2.result.room
    (new_board c.made.counter c.new-2.result.room (omega arith)) (sym c.new-2.ensures))

pub returns-then-senders-gt-MOST_SENDERS-clause-too_many : goal.returns-then-senders-gt-MOST_SENDERS-clause-too_many
returns-then-senders-gt-MOST_SENDERS-clause-too_many c = (λ _. c.if-senders-gt-MOST_SENDERS.true, λ _. refl)
