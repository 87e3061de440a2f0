-- What a contract sees of the settings of a run.
use Rattle.std.specs.Prelude.{ℕ, ◌≤◌, Bool, false}
use Rattle.othello_rules.specs.declared.scoring.Scoring.{Scoring}
use Rattle.othello_rules.specs.declared.scoring.Scoring.TheVariants.{Winner}
use Rattle.bound_table.specs.Limits.{most_entries}
use Rattle.endgame_search.specs.Limits.{most_empties}
use Rattle.program_settings.specs.declared.criteria.Criteria.{Criteria}
use Rattle.program_settings.specs.Limits.{default_empties, default_entries, default_workers, most_workers}

-- the most empty squares that are solved, the number of workers, of table entries, the scoring, and
-- whether a line that lists any move must list all best ones
pub record SettingsView : Type 0 where
  pub max_empties : ℕ
  pub workers : ℕ
  pub table : ℕ
  pub scoring : Scoring
  pub complete : Bool

-- no number is above its limit
pub record IsWithinLimits (c : SettingsView) : Type 0 where
  pub few_empties : c.max_empties ≤ most_empties
  pub few_workers : c.workers ≤ most_workers
  pub few_entries : c.table ≤ most_entries

-- the default settings
abbrev pub defaults : SettingsView
defaults = record {
  max_empties = default_empties;
  workers = default_workers;
  table = default_entries;
  scoring = Winner;
  complete = false;
}

-- the criteria by which the lines of a run with these settings are refused and checked
abbrev pub criteria_of : SettingsView → Criteria
criteria_of c = record { limit = c.max_empties; complete = c.complete }
