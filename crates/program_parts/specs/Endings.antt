-- How a call of a program ended, with which status, and what it printed.
use Rattle.std.specs.Prelude.{◌≡◌, ◌≢◌, ◌⊎◌, ℕ, ◌≤◌, List, Option}
use Rattle.program_parts.specs.CommandLine.{AsksForText, IsFaultless, IsRefusedBy, IsTakenBy, Program}

-- A call of a program over these words ended with this status. Standard output held `old` before
-- and holds `new` now; `Done` is what 0 says, if the words ask for neither help nor the version.
-- With 2, clap refuses the words, and standard output is as it was. With another status, clap finds
-- no fault in the words, or they ask for help or the version, or the status is `memory`, since
-- memory may be refused before clap has taken them.
pub record EndsProgram (program : Program) (memory : ℕ) (words : List (List ℕ))
    (old new : Option (List ℕ)) (status : ℕ) (Done : Type 0) : Type 0 where
  pub in_range : status ≤ 3
  pub done : status ≡ 0 → AsksForText program words ⊎ Done
  pub taken : IsTakenBy program words → status ≢ 2
  pub refused : status ≡ 2 → IsRefusedBy program words × (new ≡ old)
  pub unrefused : status ≢ 2
      → (status ≡ memory) ⊎ (AsksForText program words ⊎ IsFaultless program words)

-- A call of a program ended without its words: with 2, since a word is not text, or with `memory`,
-- for lack of memory. Standard output held `old` before and holds `new` now: it is as it was.
pub record EndsUnread (memory : ℕ) (old new : Option (List ℕ)) (status : ℕ) : Type 0 where
  pub ends : (status ≡ memory) ⊎ (status ≡ 2)
  pub unwritten : new ≡ old
