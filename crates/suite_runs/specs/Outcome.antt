-- The reports and the book of the parts of a run.
use Rattle.std.specs.Prelude.{◌≡◌, ◌↔◌, ℕ, List, map, Contains}
use Rattle.std.specs.List.{enumerate_from, flat_map}
use Rattle.othello_rules.specs.declared.scoring.Scoring.{Scoring}
use Rattle.othello_bits.specs.Pos.{PosView}
use Rattle.othello_bits.specs.Symmetries.{canonical_of}
use Rattle.endgame_search.specs.Task.{TaskView}
use Rattle.solved_book.specs.Books.{BookView}
use Rattle.suite_runs.specs.Part.{PartView}
use Rattle.suite_reports.specs.ReportText.{report_text}

-- the report of a file's part
abbrev pub report_of_view : ℕ × PartView → List ℕ
report_of_view (file, y) = report_text file y.0

-- the reports of parts, the first of which is the part of file n
unfoldable pub reports_of_views : ℕ → List PartView → List (List ℕ)
reports_of_views n views = map report_of_view (enumerate_from n views)

-- the solved positions of all parts, in their order
abbrev pub tasks_of_views : List PartView → List TaskView
tasks_of_views views = flat_map (λ (y : PartView). y.1) views

-- the canonical position of each task
abbrev pub canonicals : List TaskView → List PosView
canonicals tasks = map (λ (t : TaskView). canonical_of t.position) tasks

-- the book has this scoring; it holds the canonical positions of the tasks, and no others
pub record IsBookOf (g : Scoring) (tasks : List TaskView) (book : BookView) : Type 0 where
  pub scoring : book.scoring ≡ g
  pub positions : (p : PosView) → Contains book.positions p ↔ Contains (canonicals tasks) p
