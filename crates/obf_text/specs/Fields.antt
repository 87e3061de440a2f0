-- The fields of a line. The bytes after the side to move, up to the first `%`, are cut at each
-- `;`. A piece that is a move, a colon and a score lists that move. Any other piece lists nothing.
use Rattle.std.specs.Prelude.{◌≡◌, ◌⊎◌, ℕ, ℤ, pos, neg_ℤ, ◌+◌, ◌-◌, ◌*◌, ◌<◌, ◌≤◌, ◌==◌, ◌&&◌, ◌||◌, Bool, false, nat_le, List}
use Rattle.std.specs.Prelude.{[], ◌∷◌, ◌++◌, length, map, take, drop, Option, Some, None, if◌then◌else◌}
use Rattle.std.specs.List.{AllPass, slice_split, before_first, position_or_len, suffix_len, filter_map}
use Rattle.std.specs.Option.{option_map}
use Rattle.othello_rules.specs.Board.{IsNameOf}
use Rattle.othello_rules.specs.Value.{greatest}
use Rattle.obf_text.specs.Bytes.{is_blank, is_content}
use Rattle.obf_text.specs.declared.entries.ListedMove.{ListedMove}
use Rattle.obf_text.specs.declared.entries.ListedMove.TheVariants.{At, Pass, Over}

-- a field: a listed move, with its score as the side to move sees it
abbrev pub Field : Type 0
Field = ListedMove × ℤ

-- a listed move is the move to the square
abbrev pub is_move_to : ListedMove → ℕ → Bool
is_move_to (At p) q = p == q
is_move_to _ q = false

-- the greatest listed score
abbrev pub greatest_listed : List Field → ℤ
greatest_listed fields = greatest (map (λ f. f.1) fields)

-- the pieces of the bytes after the side to move
abbrev pub pieces_of : List ℕ → List (List ℕ)
pieces_of rest = slice_split (λ b. b == 59) (before_first (λ b. b == 37) rest)

-- ---- the grammar

-- `PS`, each letter in either case
pub record IsPass (text : List ℕ) : Type 0 where
  pub first : ℕ
  pub second : ℕ
  pub whole : text ≡ first ∷ second ∷ []
  pub p : (first ≡ 80) ⊎ (first ≡ 112)
  pub s : (second ≡ 83) ⊎ (second ≡ 115)

-- a square's name, `PS` for a pass, `--` if the game is over
abbrev pub IsMoveText : List ℕ → ListedMove → Type 0
IsMoveText text (At square) = (square < 64) × IsNameOf text square
IsMoveText text Pass = IsPass text
IsMoveText text Over = text ≡ 45 ∷ 45 ∷ []

-- the byte spells the digit
abbrev pub IsDigit : ℕ → ℕ → Type 0
IsDigit byte digit = (byte ≡ 48 + digit) × (digit ≤ 9)

-- two bytes are digits, and n is their number
pub record IsTwoDigits (first second n : ℕ) : Type 0 where
  pub tens : ℕ
  pub ones : ℕ
  pub first_digit : IsDigit first tens
  pub second_digit : IsDigit second ones
  pub value : n ≡ 10 * tens + ones

-- one or two digits
abbrev pub IsNumber : List ℕ → ℕ → Type 0
IsNumber (only ∷ []) n = IsDigit only n
IsNumber (first ∷ second ∷ []) n = IsTwoDigits first second n
IsNumber _ n = ⊥

-- the score of a size after a sign: minus with `-`, plus with `+` or no sign
abbrev pub IsSigned : List ℕ → ℕ → ℤ → Type 0
IsSigned sign size score =
    ((sign ≡ 45 ∷ []) × (score ≡ neg_ℤ (pos size)))
    ⊎ (((sign ≡ 43 ∷ []) ⊎ (sign ≡ [])) × (score ≡ pos size))

-- a text that is a score, at most 64 in size
pub record IsScoreText (text : List ℕ) (score : ℤ) : Type 0 where
  pub sign : List ℕ
  pub digits : List ℕ
  pub size : ℕ
  pub whole : text ≡ sign ++ digits
  pub number : IsNumber digits size
  pub within : size ≤ 64
  pub signed : IsSigned sign size score

-- a piece that is a field: a move, a colon and a score, with blanks only at the ends
pub record IsField (piece : List ℕ) (field : Field) : Type 0 where
  pub before : List ℕ
  pub move : List ℕ
  pub score : List ℕ
  pub after : List ℕ
  pub whole : piece ≡ before ++ ((move ++ 58 ∷ score) ++ after)
  pub before_blank : AllPass is_blank before
  pub after_blank : AllPass is_blank after
  pub is_move_text : IsMoveText move field.0
  pub is_score_text : IsScoreText score field.1

-- a piece that is no field
abbrev pub IsNoField : List ℕ → Type 0
IsNoField piece = (field : Field) → IsField piece field → ⊥

-- pieces list fields in their order: each piece is the next field, or no field
abbrev pub Lists : List (List ℕ) → List Field → Type 0
Lists [] [] = Unit {0}
Lists [] (field ∷ fields) = ⊥
Lists (piece ∷ pieces) [] = IsNoField piece × Lists pieces []
Lists (piece ∷ pieces) (field ∷ fields) =
    (IsField piece field × Lists pieces fields) ⊎ (IsNoField piece × Lists pieces (field ∷ fields))

-- ---- what the reader computes

-- how far the byte b is above `first`, if that is from 0 to `last`
abbrev pub offset_of : ℕ → ℕ → ℕ → Option ℕ
offset_of first last b =
    if nat_le first b && nat_le b (first + last) then Some (b - first) else None

-- the digit that a byte spells, if it does
abbrev pub digit_of : ℕ → Option ℕ
digit_of b = offset_of 48 9 b

-- the column of a letter: A to H, or a to h
abbrev pub column_of_letter : ℕ → Option ℕ
column_of_letter b = if nat_le b 72 then offset_of 65 7 b else offset_of 97 7 b

-- the row of a digit from 1 to 8, counted from 0
abbrev pub row_of_digit : ℕ → Option ℕ
row_of_digit b = offset_of 49 7 b

-- the square of a column and a row, if both are there
abbrev pub square_in : Option ℕ → Option ℕ → Option ListedMove
square_in (Some column) (Some row) = Some (At (column + 8 * row))
square_in _ _ = None

-- two bytes are `PS`, each letter in either case
abbrev pub is_pass : ℕ → ℕ → Bool
is_pass a b = ((a == 80) || (a == 112)) && ((b == 83) || (b == 115))

-- what two bytes name, if they do: a pass, the end of the game, or the move to a square
abbrev pub move_of : ℕ → ℕ → Option ListedMove
move_of a b =
    if is_pass a b then Some Pass
    else (if (a == 45) && (b == 45) then Some Over
    else square_in (column_of_letter a) (row_of_digit b))

-- the number, if it is at most 64
abbrev pub at_most_64 : ℕ → Option ℕ
at_most_64 n = if nat_le n 64 then Some n else None

-- the number of two digits, if it is at most 64
abbrev pub two_digit_magnitude : Option ℕ → Option ℕ → Option ℕ
two_digit_magnitude (Some tens) (Some ones) = at_most_64 (10 * tens + ones)
two_digit_magnitude _ _ = None

-- the number of one or two bytes, if they are digits and it is at most 64
abbrev pub magnitude_of : List ℕ → Option ℕ
magnitude_of (a ∷ []) = digit_of a
magnitude_of (a ∷ b ∷ []) = two_digit_magnitude (digit_of a) (digit_of b)
magnitude_of _ = None

-- the score of a text, if it is one: `+`, `-` or no sign, and a size
abbrev pub score_of_text : List ℕ → Option ℤ
score_of_text [] = None
score_of_text (sign ∷ digits) =
    if sign == 43 then option_map pos (magnitude_of digits)
    else (if sign == 45 then option_map (λ n. neg_ℤ (pos n)) (magnitude_of digits)
    else option_map pos (magnitude_of (sign ∷ digits)))

-- the field of a move and a score, if both are there
abbrev pub field_by : Option ListedMove → Option ℤ → Option Field
field_by (Some move) (Some score) = Some (move, score)
field_by _ _ = None

-- the field of a text, if it is one: two bytes that name a move, a colon and a score
abbrev pub field_of_text : List ℕ → Option Field
field_of_text (a ∷ b ∷ colon ∷ score) =
    if colon == 58 then field_by (move_of a b) (score_of_text score) else None
field_of_text _ = None

-- a piece without the blanks at its front
abbrev pub without_first_blanks : List ℕ → List ℕ
without_first_blanks piece = drop (position_or_len is_content piece) piece

-- a piece without the blanks at its end
abbrev pub without_last_blanks : List ℕ → List ℕ
without_last_blanks piece = take (length piece - suffix_len is_blank piece) piece

-- a piece without the blanks at both ends
abbrev pub without_blanks : List ℕ → List ℕ
without_blanks piece = without_last_blanks (without_first_blanks piece)

-- the field of a piece, if it is one
abbrev pub field_of : List ℕ → Option Field
field_of piece = field_of_text (without_blanks piece)

-- the fields of the bytes after the side to move, in their order
abbrev pub fields_of : List ℕ → List Field
fields_of rest = filter_map field_of (pieces_of rest)

-- the pieces of the text that is left, or none if no text is left
abbrev pub pieces_left : Option (List ℕ) → List (List ℕ)
pieces_left None = []
pieces_left (Some text) = slice_split (λ b. b == 59) text
