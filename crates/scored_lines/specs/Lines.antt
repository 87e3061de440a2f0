-- The text that is printed for a list: one line with every move's score for each line of the list.
use Rattle.std.specs.Prelude.{ℕ, ◌∷◌, ◌++◌, [], List, Bool, true, false, not, nat_lt}
use Rattle.std.specs.Prelude.{codes, if◌then◌else◌}
use Rattle.std.specs.List.{flat_map, list_all}
use Rattle.othello_rules.specs.declared.scoring.Scoring.{Scoring}
use Rattle.othello_rules.specs.Value.{empties}
use Rattle.obf_text.specs.Faults.{line_fault_text, too_many_text}
use Rattle.obf_text.specs.Fields.{Field}
use Rattle.obf_text.specs.LineText.{lines_of}
use Rattle.obf_text.specs.Obf.{Entry, Faulty, Holds, Meaning, Skipped, item_of}
use Rattle.obf_text.specs.Pieces.{comment_of, line_pieces}
use Rattle.obf_text.specs.Written.{entry_text}
use Rattle.move_scores.specs.Scores.{score_fields}
use Rattle.scored_lines.specs.Remarks.{has_remarks, line_remarks, remarks_text}
use Rattle.program_settings.specs.declared.criteria.Criteria.{Criteria}

-- a line as it is, with its end
abbrev pub kept_text : List ℕ → List ℕ
kept_text line = line ++ 10 ∷ []

-- a colon, a space, and a line as it is
unfoldable pub quoted_text : List ℕ → List ℕ
quoted_text line = codes ": " ++ kept_text line

-- a line that is refused: a comment with the reason and the line
unfoldable pub refused_text : List ℕ → List ℕ → List ℕ
refused_text reason line = codes "% refused: " ++ (reason ++ quoted_text line)

-- the comment of a line after a space, or nothing if the line has none
abbrev pub comment_text : List ℕ → List ℕ
comment_text [] = []
comment_text (b ∷ more) = 32 ∷ b ∷ more

-- the text of a position: the position with its scores, the remarks on its line, the line's comment
unfoldable pub scored_text : Bool → Entry → List Field → List ℕ → List ℕ
scored_text complete entry scores line =
    entry_text entry.position scores
    ++ (remarks_text false (line_remarks complete scores entry.listed (line_pieces line))
    ++ (comment_text (comment_of line) ++ 10 ∷ []))

-- the text that is printed for a line, by the meaning of the line
unfoldable pub out_text : Scoring → Criteria → List ℕ → Meaning → List ℕ
out_text g by line Skipped = kept_text line
out_text g by line (Holds entry) =
    if nat_lt by.limit (empties entry.position)
    then refused_text (too_many_text (empties entry.position) by.limit) line
    else scored_text by.complete entry (score_fields g entry.position) line
out_text g by line (Faulty fault) = refused_text (line_fault_text fault) line

-- the text that is printed for lines
unfoldable pub lines_text : Scoring → Criteria → List (List ℕ) → List ℕ
lines_text g by lines = flat_map (λ line. out_text g by line (item_of line)) lines

-- the text that is printed for a list
abbrev pub scores_text : Scoring → Criteria → List ℕ → List ℕ
scores_text g by text = lines_text g by (lines_of text)

-- the text that is printed for lists, one after the other
unfoldable pub lists_text : Scoring → Criteria → List (List ℕ) → List ℕ
lists_text g by texts = flat_map (scores_text g by) texts

-- whether a line is right, by its meaning: it is not refused, and there is no remark on it
unfoldable pub is_right : Scoring → Criteria → List ℕ → Meaning → Bool
is_right g by line Skipped = true
is_right g by line (Holds entry) =
    if nat_lt by.limit (empties entry.position) then false
    else not (has_remarks (line_remarks by.complete (score_fields g entry.position) entry.listed
    (line_pieces line)))
is_right g by line (Faulty fault) = false

-- whether all of some lines are right
unfoldable pub are_right : Scoring → Criteria → List (List ℕ) → Bool
are_right g by lines = list_all (λ line. is_right g by line (item_of line)) lines

-- whether all lines of lists are right
unfoldable pub lists_right : Scoring → Criteria → List (List ℕ) → Bool
lists_right g by texts = list_all (λ text. are_right g by (lines_of text)) texts
