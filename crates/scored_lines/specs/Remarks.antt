-- The remarks on a line: on its pieces, and on best moves that it leaves out.
use Rattle.std.specs.Prelude.{ℕ, ℤ, Bool, true, false, List, [], ◌∷◌, ◌++◌, Option, Some, None}
use Rattle.std.specs.Prelude.{option_map, codes, if◌then◌else◌}
use Rattle.std.specs.List.{Contains, filter_map}
use Rattle.othello_rules.specs.declared.scoring.Scoring.{Scoring}
use Rattle.othello_rules.specs.Rules.{GridView}
use Rattle.othello_rules.specs.Value.{best_moves}
use Rattle.obf_text.specs.Fields.{Field, field_of, without_blanks}
use Rattle.obf_text.specs.Written.{move_text, score_text}
use Rattle.obf_text.specs.declared.entries.ListedMove.{ListedMove}
use Rattle.obf_text.specs.declared.entries.ListedMove.TheVariants.{At}
use Rattle.scored_lines.specs.Checks.{asks_for_best, is_left_out, wrong_in}
use Rattle.scored_lines.specs.declared.checks.Wrong.{Wrong}

-- the score of a move, or that the position has no such move
unfoldable pub verdict_text : Option ℤ → List ℕ
verdict_text None = codes "not a move"
verdict_text (Some score) = score_text score

-- `A1:+62 is +52`, or `D4:+02 is not a move`
unfoldable pub wrong_text : Wrong → List ℕ
wrong_text w =
    move_text w.listed ++ (codes ":" ++ (score_text w.claimed
    ++ (codes " is " ++ verdict_text w.score)))

-- `not read: ` and the bytes
unfoldable pub unread_text : List ℕ → List ℕ
unread_text bytes = codes "not read: " ++ bytes

-- the remark on bytes that are not a field; none if there are no bytes
abbrev pub unread_remark : List ℕ → Option (List ℕ)
unread_remark [] = None
unread_remark (b ∷ bs) = Some (unread_text (b ∷ bs))

-- the remark on a listed move; none if its score is right
abbrev pub field_remark : List Field → Field → Option (List ℕ)
field_remark scores f = option_map wrong_text (wrong_in scores f)

abbrev pub remark_by : List Field → List ℕ → Option Field → Option (List ℕ)
remark_by scores piece (Some f) = field_remark scores f
remark_by scores piece None = unread_remark (without_blanks piece)

-- the remark on a piece: it lists a move with a wrong score, or a move that the position doesn't
-- have, or it is neither blank nor a field
abbrev pub remark_of : List Field → List ℕ → Option (List ℕ)
remark_of scores piece = remark_by scores piece (field_of piece)

-- the remarks of pieces, in their order
abbrev pub remarks : List Field → List (List ℕ) → List (List ℕ)
remarks scores pieces = filter_map (remark_of scores) pieces

-- `best move A1 is not listed`
unfoldable pub left_out_text : ListedMove → List ℕ
left_out_text move = codes "best move " ++ (move_text move ++ codes " is not listed")

-- the remark on a move of the position; none if it is listed, or is not a best move
abbrev pub left_out_remark : List Field → List Field → Field → Option (List ℕ)
left_out_remark scores listed f =
    if is_left_out scores listed f then Some (left_out_text f.0) else None

-- the remarks on best moves that are not listed, if they are asked for and the line lists moves
abbrev pub left_out_remarks : Bool → List Field → List Field → List (List ℕ)
left_out_remarks complete scores listed =
    if asks_for_best complete listed then filter_map (left_out_remark scores listed) scores else []

-- a best move of the position, which the line does not list
pub record IsLeftOut (g : Scoring) (P : GridView) (listed : List Field) (q : ℕ) : Type 0 where
  pub best : Contains (best_moves g P) q
  pub unlisted : (score : ℤ) → Contains listed (At q, score) → ⊥

-- the remarks on a line: those on its pieces, and then those on the moves that it leaves out
abbrev pub line_remarks : Bool → List Field → List Field → List (List ℕ) → List (List ℕ)
line_remarks complete scores listed pieces =
    remarks scores pieces ++ left_out_remarks complete scores listed

abbrev pub has_remarks : List (List ℕ) → Bool
has_remarks [] = false
has_remarks (r ∷ more) = true

-- the bytes in front of a remark, by whether another remark comes before it
unfoldable pub gap_text : Bool → List ℕ
gap_text false = codes " % "
gap_text true = codes ", "

-- the text of remarks, by whether another remark comes before them
abbrev pub remarks_text : Bool → List (List ℕ) → List ℕ
remarks_text found [] = []
remarks_text found (r ∷ more) = gap_text found ++ (r ++ remarks_text true more)

-- the text of one remark or none, by whether another remark comes before it
abbrev pub one_text : Bool → Option (List ℕ) → List ℕ
one_text found None = []
one_text found (Some r) = gap_text found ++ r
