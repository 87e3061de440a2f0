-- The jobs that wait (a priority queue).
use Rattle.std.specs.Prelude.{ℕ, ◌==◌, ◌&&◌, Bool, List, count_by}
use Rattle.job_board.specs.declared.jobs.JobId.{JobId}

-- the jobs in no particular order, and for how many there is room
pub record Queue : Type 0 where
  pub jobs : List JobId
  pub room : ℕ

-- id names job k of sender s
abbrev pub is_id_of : ℕ → ℕ → JobId → Bool
is_id_of s k id = (id.sender == s) && (id.number == k)

-- how often a list names job k of sender s
abbrev pub id_count : ℕ → ℕ → List JobId → ℕ
id_count s k ids = count_by (is_id_of s k) ids
