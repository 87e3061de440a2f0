-- The errors that end `ffosolve` early: their reasons, their lines and their statuses.
use Rattle.std.specs.Prelude.{◌≡◌, ℕ, List, [], ◌++◌, Option, Some, codes}
use Rattle.std.specs.Borrow.{Bor}
use Rattle.solved_book.specs.Faults.{book_fault_text}
use Rattle.solved_book.specs.declared.book_fault.BookFault.{BookFault}
use Rattle.solved_book.specs.declared.book_fault.BookFault.TheVariants as book
use Rattle.program_settings.specs.declared.input_fault.InputFault.TheVariants as input
use Rattle.suite_runs.specs.declared.run_fault.RunFault.{RunFault}
use Rattle.suite_runs.specs.declared.run_fault.RunFault.TheVariants as run
use Rattle.program_parts.specs.Cause.{cause_line, cause_text, error_line}
use Rattle.program_parts.specs.ProgramError.{error_cause, error_reason}
use Rattle.program_parts.specs.declared.program_error.ProgramError.TheVariants.{Memory, BadInput, BadWords, CannotReadInput, CannotWriteOutput}
use Rattle.program_parts.specs.declared.program_error.ProgramError.TheVariants.{CannotRead, CannotWrite}
use Rattle.book_files.specs.declared.solve_error.SolveError.{SolveError}
use Rattle.book_files.specs.declared.solve_error.SolveError.TheVariants.{Program, Mixed, BadBook, BookOnDevice, BadPlace, OverwritesFile, OverwritesBookIn}

-- the error for a fault of the run
abbrev pub run_error : RunFault → SolveError
run_error run.Memory = Program Memory
run_error run.Mixed = Mixed
run_error run.TooManyFiles = Program (BadInput input.TooManyFiles)
run_error (run.FileTooLarge sender) = Program (BadInput (input.FileTooLarge sender))

-- the error for a fault of the book that is read
abbrev pub book_error : BookFault → SolveError
book_error book.Memory = Program Memory
book_error fault = BadBook fault

-- the reason of an error, as its line has it
unfoldable pub solve_error_reason : SolveError → List ℕ
solve_error_reason (Program error) = error_reason error
solve_error_reason Mixed = codes "answers mixed"
solve_error_reason (BadBook fault) = book_fault_text fault
solve_error_reason (BookOnDevice name) = codes "cannot read " ++ name.now
solve_error_reason (BadPlace name kind) = codes "cannot write " ++ name.now
solve_error_reason (OverwritesFile name) = name.now ++ codes " is not a book and would be overwritten"
solve_error_reason (OverwritesBookIn name) =
    name.now ++ (codes " is read and would be overwritten: write --book-out NEW, then "
    ++ (codes "ffosolve-many --merge-books " ++ (name.now ++ codes " NEW")))

-- the error is one of reading the book of this name
abbrev pub IsBookError : Bor (List ℕ) → SolveError → Type 0
IsBookError name (Program Memory) = Unit {0}
IsBookError name (Program (CannotRead other kind)) = other ≡ name
IsBookError name (BookOnDevice other) = other ≡ name
IsBookError name (BadBook fault) = Unit {0}
IsBookError name _ = ⊥

-- the error is one of reading the book of a name that is these bytes; without a name there is none
abbrev pub IsBookErrorOf : Option (List ℕ) → SolveError → Type 0
IsBookErrorOf (Some text) (Program Memory) = Unit {0}
IsBookErrorOf (Some text) (Program (CannotRead other kind)) = other.now ≡ text
IsBookErrorOf (Some text) (BookOnDevice other) = other.now ≡ text
IsBookErrorOf (Some text) (BadBook fault) = Unit {0}
IsBookErrorOf _ _ = ⊥

-- the error is one of a place for a book, whose name is these bytes
abbrev pub IsPlaceErrorOf : List ℕ → SolveError → Type 0
IsPlaceErrorOf text (Program Memory) = Unit {0}
IsPlaceErrorOf text (Program (CannotRead other kind)) = other.now ≡ text
IsPlaceErrorOf text (BadPlace other kind) = other.now ≡ text
IsPlaceErrorOf text (OverwritesFile other) = other.now ≡ text
IsPlaceErrorOf text (OverwritesBookIn other) = other.now ≡ text
IsPlaceErrorOf text _ = ⊥

-- why a file can't be read or written
abbrev pub solve_error_cause : SolveError → List ℕ
solve_error_cause (Program error) = error_cause error
solve_error_cause (BookOnDevice name) = codes "it is neither a file nor a pipe"
solve_error_cause (BadPlace name kind) = cause_text kind
solve_error_cause _ = []

-- the lines of an error on standard error: its reason, and its cause if it is known
unfoldable pub solve_error_text : SolveError → List ℕ
solve_error_text error =
    error_line (codes "ffosolve") (solve_error_reason error)
    ++ cause_line (codes "ffosolve") (solve_error_cause error)

-- the exit status of `ffosolve` after an error
abbrev pub solve_status_of : SolveError → ℕ
solve_status_of (Program Memory) = 1
solve_status_of (Program (BadInput fault)) = 1
solve_status_of (Program BadWords) = 2
solve_status_of (Program CannotReadInput) = 3
solve_status_of (Program CannotWriteOutput) = 3
solve_status_of (Program (CannotRead name kind)) = 3
solve_status_of (Program (CannotWrite name kind)) = 3
solve_status_of Mixed = 1
solve_status_of (BadBook fault) = 3
solve_status_of (BookOnDevice name) = 3
solve_status_of (BadPlace name kind) = 3
solve_status_of (OverwritesFile name) = 3
solve_status_of (OverwritesBookIn name) = 3

-- the error comes before anything is printed; each does except those of writing
abbrev pub IsSilent : SolveError → Type 0
IsSilent (Program CannotWriteOutput) = ⊥
IsSilent (Program (CannotWrite name kind)) = ⊥
IsSilent _ = Unit {0}
