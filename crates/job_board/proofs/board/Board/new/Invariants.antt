use Rattle.std.proofs.Common.{◌≡◌, ◌≤◌, vec_len, vec_capacity}
use Rattle.job_board.specs.Senders.{empty_content}
use Rattle.job_board.proofs.board.Board.new.Given as goal

abbrev pub invariant-made : goal.invariant-made
invariant-made l = record {
  items : l.made.items ≡ empty_content l.counter;
  count : vec_len l.made ≡ l.counter;
  room : l.senders ≤ vec_capacity l.made;
}
