use Rattle.std.proofs.Common.{arith, refl}
use Rattle.std.proofs.lemmas.Bool.{false≢true}
use Rattle.job_board.specs.Boards.{AllDone}
use Rattle.job_board.proofs.BoardFacts.{done_by, done_none_waits, done_none_taken, closed_all}
use Rattle.job_board.proofs.board.Board.is_done.Goals as goal

pub returns-then-self-gt0 : goal.returns-then-self-gt0
returns-then-self-gt0 c = (
  λ no. absurd (false≢true no),
  λ done.
      let d : AllDone c.self.inside.senders.items = rw c.self.view_is done in
      absurd (omega (
        arith,
        c.if-self-gt0.true,
        done_none_taken c.self.inside.senders.items c.self.inside.waiting.jobs c.self.inside.taken c.self.inside.waiting.room c.self.invariant d,
      )),
)

pub returns-then-not-is_empty : goal.returns-then-not-is_empty
returns-then-not-is_empty c = (
  λ no. absurd (false≢true no),
  λ done.
      let d : AllDone c.self.inside.senders.items = rw c.self.view_is done in
      absurd (false≢true
      (c.if-not-is_empty.ensures.1
      (done_none_waits c.self.inside.senders.items c.self.inside.waiting.jobs c.self.inside.taken c.self.inside.waiting.room c.self.invariant d))),
)

pub returns : goal.returns
returns c = (
  λ yes. rw (← c.self.view_is)
      (done_by c.self.inside.senders.items c.self.inside.waiting.jobs c.self.inside.taken c.self.inside.waiting.room c.self.invariant
      (c.if-not-is_empty.ensures.0 refl) (omega (arith, c.if-self-gt0.false)) (rw c.as_slice.ensures.value at (c.are_closed.ensures.0 yes))),
  λ done.
      let d : AllDone c.self.inside.senders.items = rw c.self.view_is done in
      c.are_closed.ensures.1 (rw c.as_slice.ensures.value (closed_all c.self.inside.senders.items d)),
)
