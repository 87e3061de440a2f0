-- The reports that files define.
use Rattle.std.specs.Prelude.{ℕ, List, map}
use Rattle.std.specs.List.{enumerate_from}
use Rattle.othello_rules.specs.declared.scoring.Scoring.{Scoring}
use Rattle.suite_reports.specs.Rows.{rows}
use Rattle.program_settings.specs.declared.criteria.Criteria.{Criteria}
use Rattle.suite_reports.specs.ReportText.{report_text}

-- the report of the text of a file with its number
abbrev pub report : Scoring → Criteria → ℕ × List ℕ → List ℕ
report g c (file, text) = report_text file (rows g c text)

-- the reports of texts, the first of which is that of file n
unfoldable pub reports_from : Scoring → Criteria → ℕ → List (List ℕ) → List (List ℕ)
reports_from g c n texts = map (report g c) (enumerate_from n texts)

-- the report of each text, in their order; files are numbered from 0
abbrev pub reports : Scoring → Criteria → List (List ℕ) → List (List ℕ)
reports g c texts = reports_from g c 0 texts
