-- The lines of a book that is read: a line with its end, or the front of a long one.
use Rattle.std.specs.Prelude.{◌≡◌, ℕ, ◌≤◌, Bool, true, false, List, ◌++◌, length, Option, Some, None, Err}
use Rattle.std.specs.Io.{IsEmptyOrEndsWith, StopsAt}
use Rattle.std.specs.Io.BufRead.{drop_through, take_through}
use Rattle.std.specs.Io.KnownBytes.{Consumes, IsAtEnd}
use Rattle.std.specs.Option.{OnSome}
use Rattle.obf_text.specs.declared.line_fault.LineFault.{LineFault}
use Rattle.solved_book.specs.Claims.{ClaimsView, more_claims}
use Rattle.solved_book.specs.Reading.{NoFeeds}
use Rattle.solved_book.specs.declared.book_fault.BookFault.TheVariants.{Line}

-- A line grew by a part, which its reader lost. Only the last byte of the part may be a line feed;
-- it is one, or nothing was left to read, if the line is now whole.
pub record ReadsPart (old new : Option (List ℕ)) (before after : List ℕ) (whole : Bool) : Type 0 where
  pub part : List ℕ
  pub grows : after ≡ before ++ part
  pub lost : Consumes old new part
  pub stops : StopsAt part 10
  pub unended : whole ≡ false → NoFeeds part
  pub ended : whole ≡ true → IsEmptyOrEndsWith part 10
  pub last : whole ≡ true → length part ≡ 0 → OnSome old (IsAtEnd new)

-- A line was read from the text, and the rest is left: the first line with its end if it is whole,
-- otherwise a front without a line feed, longer than any header.
pub record IsFrontOf (text : List ℕ) (whole : Bool) (line : List ℕ) (rest : Option (List ℕ)) : Type 0 where
  pub first : whole ≡ true → (line ≡ take_through 10 text) × (rest ≡ Some (drop_through 10 text))
  pub front : whole ≡ false → Consumes (Some text) rest line
  pub unended : whole ≡ false → NoFeeds line
  pub long : whole ≡ false → 65536 ≤ length line

-- the first line of the text was read, and the rest is left; or the line has this fault
abbrev pub IsLineOrFault : List ℕ → Option LineFault → List ℕ → Option (List ℕ) → Type 0
IsLineOrFault text None line rest = IsFrontOf text true line rest
IsLineOrFault text (Some f) line rest = (a : ClaimsView) (n : ℕ) → more_claims a n text ≡ Err (Line n f)
