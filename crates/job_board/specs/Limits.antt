-- The limits of a board, as numbers that callers are promised.
use Rattle.std.specs.Prelude.{◌≡◌, ℕ, refl}
use Rattle.job_board.specs.declared.board.TheConstants.Board.{MOST_SENDERS}
use Rattle.job_board.specs.declared.sender.TheConstants.{MOST_JOBS}

-- the most senders of a board
abbrev pub most_senders : ℕ
most_senders = 64

-- the most jobs of a sender
abbrev pub most_jobs : ℕ
most_jobs = 65535

-- the constants of the code are these numbers
most_senders_in_code : MOST_SENDERS ≡ most_senders
most_senders_in_code = refl

most_jobs_in_code : MOST_JOBS ≡ most_jobs
most_jobs_in_code = refl
