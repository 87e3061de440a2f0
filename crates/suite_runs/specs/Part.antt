-- The part of each file in a run: its rows and its solved positions.
use Rattle.std.specs.Prelude.{◌≡◌, ◌⊎◌, ℕ, List, map, All, Result, Ok, Err, Vec}
use Rattle.std.specs.declared.alloc.Global.{Global}
use Rattle.othello_rules.specs.declared.scoring.Scoring.{Scoring}
use Rattle.endgame_search.specs.Task.{TaskView}
use Rattle.program_settings.specs.declared.criteria.Criteria.{Criteria}
use Rattle.suite_reports.specs.Rows.{rows, tasks}
use Rattle.suite_runs.specs.declared.part.Part.{Part}
use Rattle.suite_reports.specs.declared.report_row.ReportRow.{ReportRow}
use Rattle.suite_runs.specs.declared.run_fault.RunFault.{RunFault}
use Rattle.suite_runs.specs.declared.run_fault.RunFault.TheVariants.{Memory, Mixed}

-- the rows of a text, and its solved positions
abbrev pub PartView : Type 0
PartView = List ReportRow × List TaskView

abbrev pub part_view_of : Part → PartView
part_view_of part = (part.rows.items, part.solved.items)

-- the part that a text defines
abbrev pub part_view : Scoring → Criteria → List ℕ → PartView
part_view g by text = (rows g by text, tasks g by.limit text)

-- the solved positions of a part are all solved under this scoring
abbrev pub AreScored : Scoring → PartView → Type 0
AreScored g y = All (λ (t : TaskView). t.scoring ≡ g) y.1

-- the faults that a part may have
abbrev pub IsPartFault : RunFault → Type 0
IsPartFault fault = (fault ≡ Memory) ⊎ (fault ≡ Mixed)

-- the result is the part of the text, or the fault is `Memory` or `Mixed`
abbrev pub GivesPart : Scoring → Criteria → List ℕ → Result Part RunFault → Type 0
GivesPart g by text (Ok part) = part_view_of part ≡ part_view g by text
GivesPart g by text (Err fault) = IsPartFault fault

-- the results are the parts of the texts, in their order, or the fault is `Memory` or `Mixed`
abbrev pub GivesParts : Scoring → Criteria → List (List ℕ) → Result (Vec Part Global) RunFault → Type 0
GivesParts g by texts (Ok parts) = map part_view_of parts.items ≡ map (part_view g by) texts
GivesParts g by texts (Err fault) = IsPartFault fault
