-- What a book may be written over, and the text that is written.
use Rattle.std.specs.Prelude.{◌≡◌, ℕ, List, [], ◌∷◌, Option, String, map}
use Rattle.std.specs.Borrow.{Bor}
use Rattle.std.specs.declared.alloc.Global.{Global}
use Rattle.std.specs.declared.io.ErrorKind.TheVariants as kind
use Rattle.othello_rules.specs.declared.scoring.Scoring.{Scoring}
use Rattle.solved_book.specs.Books.{BookView, book_text, header}
use Rattle.solved_book.specs.Order.{AreBookPositions}
use Rattle.suite_runs.specs.Outcome.{IsBookOf, tasks_of_views}
use Rattle.suite_runs.specs.Part.{part_view_of}
use Rattle.suite_runs.specs.declared.solved_files.SolvedFiles.{SolvedFiles}
use Rattle.book_files.specs.declared.found.Found.{Found}
use Rattle.book_files.specs.declared.found.Found.TheVariants as found
use Rattle.book_files.specs.declared.solve_error.SolveError.{SolveError}
use Rattle.book_files.specs.declared.solve_error.SolveError.TheVariants.{BadPlace, OverwritesFile, OverwritesBookIn}

-- a file of these lines is empty, or its first line is the header of a book
abbrev pub GivesWay : List (List ℕ) → Type 0
GivesWay [] = Unit {0}
GivesWay (line ∷ lines) = (g : Scoring) × (line ≡ header g)

-- the place of a book: its name, those of the book and of the lists that the run reads, and what was
-- found there
pub record PlaceView : Type 0 where
  pub name : Bor (List ℕ)
  pub book_in : Bor (Option (String Global))
  pub lists : Bor (List (String Global))
  pub found : Found

-- A book may be written over what was found: it is not a regular file, or one that is empty or a
-- book, and neither a list nor the book that is read.
abbrev pub IsFree : Found → Type 0
IsFree found.NotRegular = Unit {0}
IsFree found.Empty = Unit {0}
IsFree found.Book = Unit {0}
IsFree _ = ⊥

-- the error of a place where this was found, by its name; a place that is free has none
abbrev pub IsRefusalOf : Found → Bor (List ℕ) → SolveError → Type 0
IsRefusalOf found.Other name error = error ≡ OverwritesFile name
IsRefusalOf found.List name error = error ≡ BadPlace name kind.ResourceBusy
IsRefusalOf found.BookIn name error = error ≡ OverwritesBookIn name
IsRefusalOf _ name error = ⊥

-- the text is that of a book of all positions of these solved files
pub record IsBookTextOf (files : SolvedFiles) (text : List ℕ) : Type 0 where
  pub book : BookView
  pub holds : IsBookOf files.scoring (tasks_of_views (map part_view_of files.parts.items)) book
  pub positions : AreBookPositions book.positions
  pub written : text ≡ book_text book.scoring book.positions
