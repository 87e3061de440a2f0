-- The limit of a table, as a number that callers are promised.
use Rattle.std.specs.Prelude.{◌≡◌, ℕ, refl}
use Rattle.bound_table.specs.declared.bound_table.TheConstants.BoundTable.{MOST_ENTRIES}

-- the greatest number of entries of a table
abbrev pub most_entries : ℕ
most_entries = 4194304

-- the constant of the code is this number
most_entries_in_code : MOST_ENTRIES ≡ most_entries
most_entries_in_code = refl
