-- The errors that end either program early, their reasons and their lines.
use Rattle.std.specs.Prelude.{◌≡◌, ℕ, List, [], ◌∷◌, ◌++◌, codes, Contains}
use Rattle.program_settings.specs.InputFault.{input_fault_text}
use Rattle.program_parts.specs.Cause.{cause_line, cause_text, error_line}
use Rattle.program_parts.specs.declared.program_error.ProgramError.{ProgramError}
use Rattle.program_parts.specs.declared.program_error.ProgramError.TheVariants.{Memory, BadInput, BadWords, CannotReadInput, CannotWriteOutput}
use Rattle.program_parts.specs.declared.program_error.ProgramError.TheVariants.{CannotRead, CannotWrite}

-- the reason of an error, as its line has it
unfoldable pub error_reason : ProgramError → List ℕ
error_reason Memory = codes "out of memory"
error_reason (BadInput fault) = input_fault_text fault
error_reason BadWords = codes "cannot read the command line"
error_reason CannotReadInput = codes "cannot read standard input"
error_reason CannotWriteOutput = codes "cannot write standard output"
error_reason (CannotRead name kind) = codes "cannot read " ++ name.now
error_reason (CannotWrite name kind) = codes "cannot write " ++ name.now

-- why a file can't be read or written
abbrev pub error_cause : ProgramError → List ℕ
error_cause (CannotRead name kind) = cause_text kind
error_cause (CannotWrite name kind) = cause_text kind
error_cause _ = []

-- the lines of an error on standard error: its reason, and its cause if it is known
unfoldable pub error_text : List ℕ → ProgramError → List ℕ
error_text program error =
    error_line program (error_reason error) ++ cause_line program (error_cause error)

-- the error is one of reading a file or a stream
abbrev pub IsReadError : ProgramError → Type 0
IsReadError Memory = Unit {0}
IsReadError CannotReadInput = Unit {0}
IsReadError (CannotRead name kind) = Unit {0}
IsReadError _ = ⊥

-- the error is one of reading the file of this name
abbrev pub IsReadErrorOf : List ℕ → ProgramError → Type 0
IsReadErrorOf text Memory = Unit {0}
IsReadErrorOf text (CannotRead name kind) = name.now ≡ text
IsReadErrorOf text _ = ⊥

-- the error is one of reading one of the files of these names
abbrev pub IsErrorOfOne : List (List ℕ) → ProgramError → Type 0
IsErrorOfOne names Memory = Unit {0}
IsErrorOfOne names (CannotRead name kind) = Contains names name.now
IsErrorOfOne names _ = ⊥

-- the error is one of reading the files of these names, or standard input if there is none
abbrev pub IsInputError : List (List ℕ) → ProgramError → Type 0
IsInputError [] Memory = Unit {0}
IsInputError [] CannotReadInput = Unit {0}
IsInputError [] _ = ⊥
IsInputError (name ∷ names) error = IsErrorOfOne (name ∷ names) error
