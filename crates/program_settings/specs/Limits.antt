-- The limits and the defaults of a run, as numbers that users are promised. Contracts cite them,
-- and the code's constants are proved by those contracts.
use Rattle.std.specs.Prelude.{ℕ}
pub use Rattle.bound_table.specs.Limits.{most_entries}
pub use Rattle.endgame_search.specs.Limits.{most_empties}

-- the most worker threads
abbrev pub most_workers : ℕ
most_workers = 64

-- the most files
abbrev pub most_files : ℕ
most_files = 64

-- the most bytes of a file
abbrev pub most_bytes : ℕ
most_bytes = 1048576

-- the limit of empty squares if none is given
abbrev pub default_empties : ℕ
default_empties = 20

-- the worker threads if no number is given
abbrev pub default_workers : ℕ
default_workers = 2

-- the entries of the table if no number is given
abbrev pub default_entries : ℕ
default_entries = 65536
