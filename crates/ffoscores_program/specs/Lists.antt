-- The lists that `ffoscores` reads, what it prints of them, and its exit statuses.
use Rattle.std.specs.Prelude.{◌≡◌, ◌⊎◌, ℕ, ◌≤◌, Bool, true, false, List, codes, length}
use Rattle.std.specs.Prelude.{Option, None}
use Rattle.std.specs.Io.KnownBytes.{Appends}
use Rattle.scored_lines.specs.Lines.{lists_right, lists_text}
use Rattle.written_bytes.specs.WrittenBytes.{AppendsFront}
use Rattle.list_printer.specs.declared.lists.ListFault.{ListFault}
use Rattle.list_printer.specs.declared.lists.ListFault.TheVariants as list
use Rattle.program_settings.specs.InputFault.{first_large}
use Rattle.program_settings.specs.Limits.{most_files}
use Rattle.program_settings.specs.Settings.{criteria_of}
use Rattle.program_parts.specs.CommandLine.{AsksForText}
use Rattle.program_parts.specs.Endings.{EndsProgram}
use Rattle.program_parts.specs.Inputs.{AreTextsOf}
use Rattle.program_parts.specs.ProgramError.{IsInputError, error_text}
use Rattle.program_parts.specs.declared.program_error.ProgramError.{ProgramError}
use Rattle.program_parts.specs.declared.program_error.ProgramError.TheVariants.{BadWords, CannotRead, CannotReadInput, CannotWrite, CannotWriteOutput, Memory}
use Rattle.ffoscores_program.specs.Options.{AsksLists, ListRequest, ffoscores}

-- These are the texts of the files of these names, or of standard input, and they are within the
-- limits: there are not too many, and none is too large.
pub record AreLists (names : List (List ℕ)) (given : Option (List ℕ)) (texts : List (List ℕ))
    : Type 0 where
  pub read : AreTextsOf names given texts
  pub few : length texts ≤ most_files
  pub small : first_large texts ≡ None

-- The lists were printed with every move's score, and `right` says whether nothing in them is
-- wrong.
pub record PrintsLists (r : ListRequest) (given old new : Option (List ℕ)) (right : Bool)
    : Type 0 where
  pub texts : List (List ℕ)
  pub lists : AreLists r.files given texts
  pub written : Appends old new (lists_text r.settings.scoring (criteria_of r.settings) texts)
  pub verdict : right ≡ lists_right r.settings.scoring (criteria_of r.settings) texts

-- a front of the lists was printed with every move's score
pub record PrintsListsFront (r : ListRequest) (given old new : Option (List ℕ)) : Type 0 where
  pub texts : List (List ℕ)
  pub lists : AreLists r.files given texts
  pub front : AppendsFront old new (lists_text r.settings.scoring (criteria_of r.settings) texts)

-- nothing was printed, or a front of the lists was
abbrev pub StopsLists : ListRequest → Option (List ℕ) → Option (List ℕ) → Option (List ℕ) → Type 0
StopsLists r given old new = (new ≡ old) ⊎ PrintsListsFront r given old new

-- the words ask for a request, and the lists of its files were printed
pub record AreListsPrinted (words : List (List ℕ)) (given old new : Option (List ℕ)) (right : Bool)
    : Type 0 where
  pub request : ListRequest
  pub asked : AsksLists words request
  pub printed : PrintsLists request given old new right

-- the words ask for a request, and nothing or a front of the lists of its files was printed
pub record AreListsBegun (words : List (List ℕ)) (given old new : Option (List ℕ)) : Type 0 where
  pub request : ListRequest
  pub asked : AsksLists words request
  pub stopped : StopsLists request given old new

-- A call of `ffoscores` ended: with 0 after printing the lists that the words ask for, with nothing
-- wrong in them, or if the words ask for help or the version; with 1 after printing lists in which
-- something is wrong; with 2 if clap refuses the words; with 3 after printing nothing or a front of
-- the lists, or if the words ask for help or the version.
pub record EndsFfoscores (words : List (List ℕ)) (given old new : Option (List ℕ)) (status : ℕ)
    : Type 0 where
  pub ends : EndsProgram ffoscores 3 words old new status
      (AreListsPrinted words given old new true)
  pub wrong : status ≡ 1 → AreListsPrinted words given old new false
  pub stopped : status ≡ 3
      → AsksForText ffoscores words ⊎ ((new ≡ old) ⊎ AreListsBegun words given old new)

-- a list that the error names is one of these, and standard input is read only without names
abbrev pub NamesListOf : List (List ℕ) → ProgramError → Type 0
NamesListOf names (CannotRead name kind) = IsInputError names (CannotRead name kind)
NamesListOf names CannotReadInput = IsInputError names CannotReadInput
NamesListOf names (CannotWrite name kind) = ⊥
NamesListOf names _ = Unit {0}

-- the error is neither out of memory nor that of standard output
abbrev pub IsSilent : ProgramError → Type 0
IsSilent Memory = ⊥
IsSilent CannotWriteOutput = ⊥
IsSilent _ = Unit {0}

-- the error of the program for a fault of printing
abbrev pub IsListError : ListFault → ProgramError → Type 0
IsListError list.Memory error = error ≡ Memory
IsListError (list.CannotWrite kind) error = error ≡ CannotWriteOutput

-- the exit status of `ffoscores` after an error
abbrev pub list_status_of : ProgramError → ℕ
list_status_of BadWords = 2
list_status_of _ = 3

-- An error with this status ended the call: standard error, which held `old` before and holds `new`
-- now, has the lines of the error, and nothing else is new.
pub record ShowsError (old new : Option (List ℕ)) (status : ℕ) : Type 0 where
  pub error : ProgramError
  pub ended : list_status_of error ≡ status
  pub shown : Appends old new (error_text (codes "ffoscores") error)

-- the error is out of memory or that of standard output, or the words ask for a request, and a list
-- that the error names is one of it
abbrev pub NamesListOfWords : List (List ℕ) → ProgramError → Type 0
NamesListOfWords words Memory = Unit {0}
NamesListOfWords words CannotWriteOutput = Unit {0}
NamesListOfWords words error = (r : ListRequest) × (AsksLists words r × NamesListOf r.files error)

-- An error with this status ended a call for these words. Standard error, which held `old` before and
-- holds `new` now, has the lines of the error, and nothing else is new. Standard output held `given`
-- before and holds `made` now, the same unless the error is out of memory or that of standard output.
pub record EndsEarly (words : List (List ℕ)) (old new given made : Option (List ℕ)) (status : ℕ)
    : Type 0 where
  pub error : ProgramError
  pub ended : list_status_of error ≡ status
  pub named : NamesListOfWords words error
  pub shown : Appends old new (error_text (codes "ffoscores") error)
  pub unwritten : IsSilent error → made ≡ given

-- What standard error got from a call for these words, by its status: nothing with 0 or 1, and the
-- lines of an error with 3.
pub record ShowsEnding (words : List (List ℕ)) (old new given made : Option (List ℕ)) (status : ℕ)
    : Type 0 where
  pub quiet : (status ≡ 0) ⊎ (status ≡ 1) → new ≡ old
  pub failed : status ≡ 3 → EndsEarly words old new given made status
