-- The result of a run on files.
use Rattle.std.specs.Prelude.{◌≡◌, ℕ, List, map, Some, None, Result, Ok, Err}
use Rattle.std.specs.List.{flat_map}
use Rattle.othello_rules.specs.declared.scoring.Scoring.{Scoring}
use Rattle.obf_text.specs.LineText.{texts_of}
use Rattle.endgame_search.specs.Task.{TaskView}
use Rattle.program_settings.specs.Settings.{SettingsView, criteria_of}
use Rattle.suite_runs.specs.Outcome.{IsBookOf}
use Rattle.suite_runs.specs.Part.{part_view, part_view_of}
use Rattle.suite_reports.specs.Reports.{reports}
use Rattle.suite_reports.specs.Rows.{tasks}
use Rattle.suite_runs.specs.declared.run_fault.RunFault.{RunFault}
use Rattle.suite_runs.specs.declared.run_fault.RunFault.TheVariants.{Memory, Mixed, TooManyFiles, FileTooLarge}
use Rattle.suite_runs.specs.declared.outcome.Outcome.{Outcome}
use Rattle.suite_runs.specs.declared.solved_files.SolvedFiles.{SolvedFiles}
use Rattle.suite_runs.specs.declared.part.Part.{Part}
use Rattle.program_settings.specs.InputFault.{refusal_of}
use Rattle.program_settings.specs.declared.input_fault.InputFault.TheVariants as input

-- each part is the part of its text
abbrev pub ArePartsOf : SettingsView → List (List ℕ) → List Part → Type 0
ArePartsOf c texts parts = map part_view_of parts ≡ map (part_view c.scoring (criteria_of c)) texts

-- the tasks of all texts, in their order
abbrev pub all_tasks : Scoring → ℕ → List (List ℕ) → List TaskView
all_tasks g limit texts = flat_map (tasks g limit) texts

-- the files are solved: under the scoring of the settings, each part is the part of its text
pub record AreFilesOf (c : SettingsView) (texts : List (List ℕ)) (files : SolvedFiles) : Type 0 where
  pub scoring : files.scoring ≡ c.scoring
  pub parts : ArePartsOf c texts files.parts.items

-- the outcome has the reports of the texts, and a book of their tasks
pub record Solves (c : SettingsView) (texts : List (List ℕ)) (outcome : Outcome) : Type 0 where
  pub reports : texts_of outcome.reports.items ≡ reports c.scoring (criteria_of c) texts
  pub book : IsBookOf c.scoring (all_tasks c.scoring c.max_empties texts) outcome.book

-- The result of a run on texts: if nothing is refused, a value of which `P` is true, or out of
-- memory, or mixed answers; otherwise the refusal.
abbrev pub Answers : {X : Type 0} → (X → Type 0) → List (List ℕ) → Result X RunFault → Type 0
Answers P texts (Ok made) = (refusal_of texts ≡ None) × P made
Answers P texts (Err Memory) = refusal_of texts ≡ None
Answers P texts (Err Mixed) = refusal_of texts ≡ None
Answers P texts (Err TooManyFiles) = refusal_of texts ≡ Some input.TooManyFiles
Answers P texts (Err (FileTooLarge sender)) = refusal_of texts ≡ Some (input.FileTooLarge sender)
