-- The limits of a task, as numbers that callers are promised.
use Rattle.std.specs.Prelude.{◌≡◌, ℕ, refl}
use Rattle.endgame_search.specs.declared.task.TheConstants.Task.{FEWEST_SHARED_EMPTIES, MOST_EMPTIES}

-- the greatest number of empty squares of a position that is solved
abbrev pub most_empties : ℕ
most_empties = 60

-- the constant of the code is this number
most_empties_in_code : MOST_EMPTIES ≡ most_empties
most_empties_in_code = refl

-- the fewest empty squares of a position that threads solve together
abbrev pub fewest_shared_empties : ℕ
fewest_shared_empties = 16

-- the constant of the code is this number
fewest_shared_in_code : FEWEST_SHARED_EMPTIES ≡ fewest_shared_empties
fewest_shared_in_code = refl
