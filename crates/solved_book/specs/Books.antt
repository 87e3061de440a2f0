-- A book of positions, and its text (this project's own format, in lines of OBF text).
use Rattle.std.specs.Prelude.{◌≡◌, ℕ, List, [], ◌∷◌, ◌++◌, codes, All}
use Rattle.std.specs.List.{flat_map}
use Rattle.othello_rules.specs.declared.discs.Side.TheVariants.{Black}
use Rattle.othello_rules.specs.declared.scoring.Scoring.{Scoring}
use Rattle.othello_rules.specs.Scores.{scoring_name}
use Rattle.othello_rules.specs.Answer.{AnswerView}
use Rattle.othello_bits.specs.Pos as bits
use Rattle.othello_bits.specs.Pos.{position_of, answer_of}
use Rattle.obf_text.specs.Written.{line_with_end}
use Rattle.solved_book.specs.Order.{AreRising, IsCanonical, Masks, position_at, positions_in}

-- what contracts see of a book: the scoring of its answers, and its positions
pub record BookView : Type 0 where
  pub scoring : Scoring
  pub positions : List bits.PosView

-- how the first line of a book begins
abbrev pub header_start : List ℕ
header_start = codes "% ffobook 2 "

-- the first line of a book
unfoldable pub header : Scoring → List ℕ
header g = header_start ++ scoring_name g

-- the line of a position, with Black as the mover
unfoldable pub book_line : Scoring → bits.PosView → List ℕ
book_line g p = line_with_end (position_of Black p) (answer_of g p)

-- the header, and a line for each position
unfoldable pub book_text : Scoring → List bits.PosView → List ℕ
book_text g positions = (header g ++ 10 ∷ []) ++ flat_map (book_line g) positions

-- ---- how a book keeps its positions

-- an entry of a book: a canonical position with its answer
pub record IsSolvedEntry (g : Scoring) (e : Masks × AnswerView) : Type 0 where
  pub canonical : IsCanonical (position_at e.0)
  pub exact : e.1 ≡ answer_of g (position_at e.0)

abbrev pub AreSolved : Scoring → List (Masks × AnswerView) → Type 0
AreSolved g kept = All (IsSolvedEntry g) kept

-- what a book keeps: canonical positions in rising order, each with its answer
pub record IsBook (g : Scoring) (kept : List (Masks × AnswerView)) : Type 0 where
  pub solved : AreSolved g kept
  pub rising : AreRising (positions_in kept)
