-- The rows of a text, built from one line after the other.
use Rattle.std.proofs.Common.{◌≡◌, ℕ, ◌+◌, ◌≤◌, List, [], ◌∷◌, ◌++◌, length, map, refl, sym, ◌∙◌, arith}
use Rattle.std.specs.Prelude.{Some, None}
use Rattle.std.proofs.lemmas.List.{append_assoc, append-nil, map-append}
use Rattle.othello_rules.specs.declared.scoring.Scoring.{Scoring}
use Rattle.obf_text.specs.LineText.{lines_of, room_of}
use Rattle.obf_text.specs.Obf.{item_of}
use Rattle.suite_reports.specs.declared.report_row.RowResult.{RowResult}
use Rattle.suite_reports.specs.declared.report_row.ReportRow.{ReportRow}
use Rattle.suite_reports.specs.ParsedLine.{parsed_result, row_in}
use Rattle.suite_reports.specs.declared.parsed_line.ParsedLine.{ParsedLine}
use Rattle.suite_reports.specs.declared.numbered_line.NumberedLine.{NumberedLine}
use Rattle.program_settings.specs.declared.criteria.Criteria.{Criteria}
use Rattle.suite_reports.specs.Rows.{report_row, line_result, rows, rows_from}

pub rows_start : (g : Scoring) (by : Criteria) (text : List ℕ) → rows g by text ≡ rows_from g by 1 (lines_of text)
unfolding rows
rows_start g by text = refl

rows_end : (g : Scoring) (by : Criteria) (n : ℕ) → rows_from g by n [] ≡ []
unfolding rows_from
rows_end g by n = refl

rows_yes : (g : Scoring) (by : Criteria) (n : ℕ) (line : List ℕ) (lines : List (List ℕ)) (r : RowResult) → line_result g by (item_of line) ≡ Some r
    → rows_from g by n (line ∷ lines) ≡ report_row n r ∷ rows_from g by (n + 1) lines
unfolding rows_from
rows_yes g by n line lines r e = rw e refl

rows_no : (g : Scoring) (by : Criteria) (n : ℕ) (line : List ℕ) (lines : List (List ℕ)) → line_result g by (item_of line) ≡ None
    → rows_from g by n (line ∷ lines) ≡ rows_from g by (n + 1) lines
unfolding rows_from
rows_no g by n line lines e = rw e refl

-- a line with a result adds its row
pub rows_more : (g : Scoring) (by : Criteria) (n next : ℕ) (line : List ℕ) (left lines : List (List ℕ)) (r : ParsedLine)
    (made : List NumberedLine) (all : List ReportRow)
    → next ≡ n + 1 → left ≡ line ∷ lines → line_result g by (item_of line) ≡ Some (parsed_result r) → map row_in made ++ rows_from g by n left ≡ all
    → map row_in (made ++ (record { number = n; parsed = r }) ∷ []) ++ rows_from g by next lines ≡ all
rows_more g by n next line left lines r made all counted cut e h =
    let k = rw (cut, rows_yes g by n line lines (parsed_result r) e) at h in
    rw (map-append, append_assoc, counted) k

-- a line that is skipped adds none
pub rows_skip : (g : Scoring) (by : Criteria) (n next : ℕ) (line : List ℕ) (left lines : List (List ℕ)) (made all : List ReportRow)
    → next ≡ n + 1 → left ≡ line ∷ lines → line_result g by (item_of line) ≡ None → made ++ rows_from g by n left ≡ all
    → made ++ rows_from g by next lines ≡ all
rows_skip g by n next line left lines made all counted cut e h =
    let k = rw (cut, rows_no g by n line lines e) at h in
    rw counted k

pub rows_all : (g : Scoring) (by : Criteria) (n : ℕ) (left : List (List ℕ)) (made all : List ReportRow)
    → left ≡ [] → made ++ rows_from g by n left ≡ all → made ≡ all
rows_all g by n left made all cut h = sym (append-nil made) ∙ (rw (cut, rows_end g by n) at h)

-- the room of a line is no longer left
pub room_more : (n most : ℕ) (line : List ℕ) (left lines : List (List ℕ)) → left ≡ line ∷ lines → n + room_of left ≤ most
    → (n + (length line + 1) ≤ most) × (n + 1 + room_of lines ≤ most)
room_more n most line left lines cut h = let k = rw cut at h in (omega arith, omega arith)
