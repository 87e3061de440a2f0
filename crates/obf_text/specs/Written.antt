-- The written form of a position with its answer: the squares, the side to move, and each best move
-- with the score.
use Rattle.std.specs.Prelude.{ℕ, ℤ, pos, negsuc, nat_abs, ◌<◌, ◌≤◌, ◌+◌, ◌/◌, ◌%◌, List, [], ◌∷◌, ◌++◌, map, codes}
use Rattle.std.specs.List.{flat_map}
use Rattle.othello_rules.specs.declared.answer.Best.{Best}
use Rattle.othello_rules.specs.declared.answer.Best.TheVariants as best
use Rattle.othello_rules.specs.declared.discs.Cell.{Cell}
use Rattle.othello_rules.specs.declared.discs.Cell.TheVariants as cell
use Rattle.othello_rules.specs.declared.discs.Side.{Side}
use Rattle.othello_rules.specs.declared.discs.Side.TheVariants as side
use Rattle.othello_rules.specs.Board.{name_of}
use Rattle.othello_rules.specs.Masks.{squares_of}
use Rattle.othello_rules.specs.Rules.{GridView}
use Rattle.othello_rules.specs.Answer.{AnswerView}
use Rattle.obf_text.specs.Fields.{Field}
use Rattle.obf_text.specs.Obf.{Entry}
use Rattle.obf_text.specs.declared.entries.ListedMove.{ListedMove}
use Rattle.obf_text.specs.declared.entries.ListedMove.TheVariants.{At, Pass, Over}

-- the byte of a cell: - X O
abbrev pub cell_byte : Cell → ℕ
cell_byte cell.Empty = 45
cell_byte cell.Black = 88
cell_byte cell.White = 79

-- the byte of a side: X O
abbrev pub side_byte : Side → ℕ
side_byte side.Black = 88
side_byte side.White = 79

-- the squares, a space, the side to move and a semicolon
unfoldable pub board_text : GridView → List ℕ
board_text P = map cell_byte P.cells ++ (32 ∷ side_byte P.mover ∷ 59 ∷ [])

-- a listed move as text: a square's name, `PS` or `--`
unfoldable pub move_text : ListedMove → List ℕ
move_text (At square) = name_of square
move_text Pass = codes "PS"
move_text Over = codes "--"

-- a number below 100 as two digits
abbrev pub two_digits : ℕ → List ℕ
two_digits n = (48 + n / 10) ∷ (48 + n % 10) ∷ []

-- a score as text: a sign and two digits (`negsuc n` is -(n + 1))
unfoldable pub score_text : ℤ → List ℕ
score_text (pos n) = 43 ∷ two_digits n
score_text (negsuc n) = 45 ∷ two_digits (n + 1)

-- a colon, the score and a semicolon
unfoldable pub score_part : ℤ → List ℕ
score_part score = codes ":" ++ (score_text score ++ codes ";")

-- a space, the move, a colon, the score and a semicolon
unfoldable pub field_text : Field → List ℕ
field_text field = codes " " ++ (move_text field.0 ++ score_part field.1)

-- the fields, in their order
unfoldable pub fields_text : List Field → List ℕ
fields_text fields = flat_map field_text fields

-- the fields of a score and what attains it: one with the score for each best move in the order of
-- the squares, or one for the pass or the end of the game
abbrev pub best_fields : ℤ → Best → List Field
best_fields score (best.Moves mask) = map (λ square. (At square, score)) (squares_of mask)
best_fields score best.Pass = (Pass, score) ∷ []
best_fields score best.Over = (Over, score) ∷ []

-- the fields of an answer
abbrev pub answer_fields : AnswerView → List Field
answer_fields A = best_fields A.score A.best

-- the text of the fields of a score and what attains it
unfoldable pub best_fields_text : ℤ → Best → List ℕ
best_fields_text score best = fields_text (best_fields score best)

-- the line of a position with its answer, without its LF
unfoldable pub line_text : GridView → AnswerView → List ℕ
line_text P A = board_text P ++ best_fields_text A.score A.best

-- the line and its LF
abbrev pub line_with_end : GridView → AnswerView → List ℕ
line_with_end P A = line_text P A ++ 10 ∷ []

-- the entry that is read back: the position with the fields of its answer
abbrev pub answer_entry : GridView → AnswerView → Entry
answer_entry P A = record { position = P; listed = answer_fields A }

-- the line of a position with any fields, without an end
unfoldable pub entry_text : GridView → List Field → List ℕ
entry_text P fields = board_text P ++ fields_text fields

-- a listed square is on the board
abbrev pub IsWritableMove : ListedMove → Type 0
IsWritableMove (At square) = square < 64
IsWritableMove Pass = Unit {0}
IsWritableMove Over = Unit {0}

-- a field that is read back as it is written
abbrev pub IsWritable : Field → Type 0
IsWritable field = IsWritableMove field.0 × (nat_abs field.1 ≤ 64)

-- fields that are read back as they are written
abbrev pub AreWritable : List Field → Type 0
AreWritable [] = Unit {0}
AreWritable (f ∷ fields) = IsWritable f × AreWritable fields
