-- What a transposition table keeps, and what contracts see of it.
use Rattle.std.specs.Prelude.{◌≡◌, ℕ, ◌≤◌, List, length, All}
use Rattle.othello_rules.specs.declared.scoring.Scoring.{Scoring}
use Rattle.othello_bits.specs.Pos.{PosView}
use Rattle.othello_bits.specs.Symmetries.{canonical_of}
use Rattle.bound_table.specs.Range.{RangeView, IsTrueOf}
use Rattle.bound_table.specs.Limits.{most_entries}

-- what a slot keeps of its entry: the position is canonical, and the range is true of it under the slot's scoring
pub record IsKnown (g : Scoring) (p : PosView) (i : RangeView) : Type 0 where
  pub canonical : canonical_of p ≡ p
  pub holds : IsTrueOf g p i

-- what is seen of a table: the scoring of its ranges and the number of its entries
pub record TableView : Type 0 where
  pub scoring : Scoring
  pub entries : ℕ

-- a table's slots, of each of which only the scoring of its range is seen: all have the table's scoring, and they are no
-- more than `most_entries`
pub record IsTable (g : Scoring) (slots : List Scoring) : Type 0 where
  pub scored : All (λ slot. slot ≡ g) slots
  pub few : length slots ≤ most_entries
