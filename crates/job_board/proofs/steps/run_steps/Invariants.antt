use Rattle.std.proofs.Common.{◌≡◌, ◌≤◌, length, take, vec_len, vec_capacity}
use Rattle.job_board.specs.Steps.{AreLawful, after_all}
use Rattle.job_board.proofs.steps.run_steps.Given as goal

abbrev pub invariant-loop-step : goal.invariant-loop-step
invariant-loop-step l = record {
  room : length l.steps ≤ vec_capacity l.replies;
  count : vec_len l.replies ≡ l.step-index;
  lawful : AreLawful l.initial.board (take l.step-index l.steps) l.replies.items;
  content : l.board ≡ after_all l.initial.board (take l.step-index l.steps) l.replies.items;
}
