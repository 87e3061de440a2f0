-- The reports of `ffosolve`, and its exit statuses.
use Rattle.std.specs.Prelude.{◌≡◌, ◌⊎◌, ℕ, ◌≤◌, false, List, length, Option, Some, None, IsSome}
use Rattle.std.specs.Io.KnownBytes.{Appends}
use Rattle.std.specs.List.{concat}
use Rattle.program_parts.specs.Endings.{EndsProgram}
use Rattle.program_parts.specs.Inputs.{AreFrontsOf, AreTextsOf}
use Rattle.suite_solver.specs.Options.{Asks, Request, ffosolve}
use Rattle.program_settings.specs.Settings.{SettingsView, criteria_of}
use Rattle.suite_reports.specs.Reports.{reports}
use Rattle.program_settings.specs.InputFault.{first_large, refusal_of}
use Rattle.program_settings.specs.Limits.{most_files}
use Rattle.program_settings.specs.declared.input_fault.InputFault.{InputFault}
use Rattle.written_bytes.specs.WrittenBytes.{AppendsFront}
use Rattle.program_parts.specs.CommandLine.{AsksForText}
use Rattle.book_files.specs.SolveError.{IsSilent, solve_error_text, solve_status_of}
use Rattle.book_files.specs.declared.solve_error.SolveError.{SolveError}
use Rattle.book_files.specs.declared.solve_error.SolveError.TheVariants.{Program, BadBook, BookOnDevice, BadPlace, OverwritesFile, OverwritesBookIn}
use Rattle.program_parts.specs.ProgramError.{IsInputError}
use Rattle.program_parts.specs.declared.program_error.ProgramError.TheVariants.{BadInput, Memory, CannotReadInput, CannotWriteOutput, CannotRead, CannotWrite}

-- A run refuses none of the texts, and their reports were written one after the other to standard
-- output, which held `old` before and holds `new` now.
pub record PrintsReports (c : SettingsView) (texts : List (List ℕ)) (old new : Option (List ℕ))
    : Type 0 where
  pub few : length texts ≤ most_files
  pub small : first_large texts ≡ None
  pub written : Appends old new (concat (reports c.scoring (criteria_of c) texts))

-- A run refuses none of the texts, and a front of their reports was written to standard output.
pub record PrintsFront (c : SettingsView) (texts : List (List ℕ)) (old new : Option (List ℕ))
    : Type 0 where
  pub few : length texts ≤ most_files
  pub small : first_large texts ≡ None
  pub front : AppendsFront old new (concat (reports c.scoring (criteria_of c) texts))

-- the reports of the files of these names were printed, or without names that of standard input,
-- which held `given`
pub record PrintsReportsOf (c : SettingsView) (names : List (List ℕ))
    (given old new : Option (List ℕ)) : Type 0 where
  pub texts : List (List ℕ)
  pub read : AreTextsOf names given texts
  pub printed : PrintsReports c texts old new

-- a front of the reports of these files was printed, or without names of that of standard input
pub record PrintsFrontOf (c : SettingsView) (names : List (List ℕ))
    (given old new : Option (List ℕ)) : Type 0 where
  pub texts : List (List ℕ)
  pub read : AreTextsOf names given texts
  pub printed : PrintsFront c texts old new

-- nothing was printed, or a front of the reports was
abbrev pub StopsReports : SettingsView → List (List ℕ) → Option (List ℕ) → Option (List ℕ)
    → Option (List ℕ) → Type 0
StopsReports c names given old new = (new ≡ old) ⊎ PrintsFrontOf c names given old new

-- the words ask for a request, and the reports of its files were printed, whatever a read book
-- claims
pub record IsAnswered (words : List (List ℕ)) (given old new : Option (List ℕ)) : Type 0 where
  pub request : Request
  pub asked : Asks words request
  pub printed : PrintsReportsOf request.settings request.files given old new

-- the words ask for a request, and nothing or a front of the reports of its files was printed
pub record AreReportsBegun (words : List (List ℕ)) (given old new : Option (List ℕ)) : Type 0 where
  pub request : Request
  pub asked : Asks words request
  pub stopped : StopsReports request.settings request.files given old new

-- A call of `ffosolve` ended: with 0, the words ask for help or the version, or the reports that they
-- ask for were printed; with 1 or 2, nothing was printed on standard output; with 3, nothing or a
-- front of the reports, or the words ask for help or the version.
pub record EndsFfosolve (words : List (List ℕ)) (given old new : Option (List ℕ)) (status : ℕ)
    : Type 0 where
  pub ends : EndsProgram ffosolve 1 words old new status (IsAnswered words given old new)
  pub unwritten : status ≡ 1 → new ≡ old
  pub stopped : status ≡ 3
      → AsksForText ffosolve words ⊎ ((new ≡ old) ⊎ AreReportsBegun words given old new)

-- the words do not ask for progress to be reported
abbrev pub AsksNoProgress : List (List ℕ) → Type 0
AsksNoProgress words = (r : Request) → Asks words r → r.progress ≡ false

-- An error with this status ended a call before it had words: standard error, which held `old` before
-- and holds `new` now, has the lines of the error, and nothing else is new.
pub record ShowsError (old new : Option (List ℕ)) (status : ℕ) : Type 0 where
  pub error : SolveError
  pub ended : solve_status_of error ≡ status
  pub shown : Appends old new (solve_error_text error)

-- the error says that the book can't be written
abbrev pub IsBookUnwritten : SolveError → Type 0
IsBookUnwritten (Program (CannotWrite name kind)) = Unit {0}
IsBookUnwritten _ = ⊥

-- if the error is that a limit on files is passed, this holds of the limit
abbrev pub IfLimit : (InputFault → Type 0) → SolveError → Type 0
IfLimit P (Program (BadInput fault)) = P fault
IfLimit P _ = Unit {0}

-- the first bytes of these files, or of standard input, pass this limit first
pub record PassesLimit (names : List (List ℕ)) (given : Option (List ℕ)) (fault : InputFault)
    : Type 0 where
  pub texts : List (List ℕ)
  pub read : AreFrontsOf names given texts
  pub refused : refusal_of texts ≡ Some fault

-- the words ask for a request, and its files, or standard input, pass this limit first
pub record PassesLimitOfWords (words : List (List ℕ)) (given : Option (List ℕ)) (fault : InputFault)
    : Type 0 where
  pub request : Request
  pub asked : Asks words request
  pub passed : PassesLimit request.files given fault

-- a file that the error names is one of the request: the book that is read or written, or a list;
-- a bad book comes only where one is read, and standard input is read only without lists
abbrev pub NamesFileOf : Request → SolveError → Type 0
NamesFileOf r (Program (CannotRead name kind)) =
    (r.book_in ≡ Some name.now)
    ⊎ ((r.book_out ≡ Some name.now) ⊎ (IsInputError r.files (CannotRead name kind)))
NamesFileOf r (Program CannotReadInput) = IsInputError r.files CannotReadInput
NamesFileOf r (Program (CannotWrite name kind)) = r.book_out ≡ Some name.now
NamesFileOf r (BadBook fault) = IsSome r.book_in
NamesFileOf r (BookOnDevice name) = r.book_in ≡ Some name.now
NamesFileOf r (BadPlace name kind) = r.book_out ≡ Some name.now
NamesFileOf r (OverwritesFile name) = r.book_out ≡ Some name.now
NamesFileOf r (OverwritesBookIn name) = r.book_out ≡ Some name.now
NamesFileOf r _ = Unit {0}

-- the error is out of memory or that of standard output, or the words ask for a request, and a file
-- that the error names is one of it
abbrev pub NamesFileOfWords : List (List ℕ) → SolveError → Type 0
NamesFileOfWords words (Program Memory) = Unit {0}
NamesFileOfWords words (Program CannotWriteOutput) = Unit {0}
NamesFileOfWords words error = (r : Request) × (Asks words r × NamesFileOf r error)

-- An error with this status ended a call for these words. Standard error held `old` before the call
-- and `held` when the error came, the same unless progress was reported, and then got the lines of
-- the error: it holds `new` now. With `Seen` its bytes are known throughout. Standard output held
-- `given` before the call and holds `made` now, the same unless the error is one of writing. If the
-- book can't be written, all reports were printed. If a limit is passed, the files that the words
-- ask for pass it, or standard input, which held `input`.
pub record EndsEarly (words : List (List ℕ)) (Seen : Type 0)
    (input old new given made : Option (List ℕ)) (status : ℕ) : Type 0 where
  pub error : SolveError
  pub ended : solve_status_of error ≡ status
  pub named : NamesFileOfWords words error
  pub held : Option (List ℕ)
  pub quiet : AsksNoProgress words → held ≡ old
  pub seen : Seen → IsSome held
  pub shown : Appends held new (solve_error_text error)
  pub unwritten : IsSilent error → made ≡ given
  pub booked : IsBookUnwritten error → IsAnswered words input given made
  pub limits : IfLimit (PassesLimitOfWords words input) error

-- What standard error got from a call for these words, by its status: nothing with 0, unless
-- progress was reported, and the lines of an error with this status with 1 or 3.
pub record ShowsEnding (words : List (List ℕ)) (Seen : Type 0)
    (input old new given made : Option (List ℕ)) (status : ℕ) : Type 0 where
  pub quiet : AsksNoProgress words → status ≡ 0 → new ≡ old
  pub failed : (status ≡ 1) ⊎ (status ≡ 3) → EndsEarly words Seen input old new given made status
