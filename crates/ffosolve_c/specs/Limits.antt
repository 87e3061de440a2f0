-- The limits of the library.
use Rattle.std.specs.Prelude.{ℕ, length, nat_eq, if◌then◌else◌}
use Rattle.othello_rules.specs.Scores.{all_scorings}
use Rattle.bound_table.specs.Limits.{most_entries}
use Rattle.endgame_search.specs.Limits.{most_empties}

-- a limit by its number: 0 the most entries of a table, 1 the most empty squares of a position that
-- is solved, 2 the number of scorings; any other number gives 0
abbrev pub limit_of : ℕ → ℕ
limit_of n =
    if nat_eq n 0 then most_entries
    else (if nat_eq n 1 then most_empties
    else (if nat_eq n 2 then length all_scorings else 0))
