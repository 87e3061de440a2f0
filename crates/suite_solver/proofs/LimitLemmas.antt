-- That a limit which an error names is one that the files pass.
use Rattle.std.proofs.Common.{◌≡◌, List, Option, ℕ, refl, sym, subst}
use Rattle.std.specs.Prelude.{Result, Ok, Err, IfErr, Some, None}
use Rattle.program_settings.specs.InputFault.{refusal_of}
use Rattle.program_settings.specs.declared.input_fault.InputFault.{InputFault}
use Rattle.program_parts.specs.Inputs.{AreFrontsOf}
use Rattle.program_parts.specs.ProgramError.{IsReadError}
use Rattle.program_parts.specs.declared.program_error.ProgramError.{ProgramError}
use Rattle.program_parts.specs.declared.program_error.ProgramError.TheVariants.{Memory, BadInput, BadWords, CannotReadInput, CannotWriteOutput}
use Rattle.program_parts.specs.declared.program_error.ProgramError.TheVariants.{CannotRead, CannotWrite}
use Rattle.suite_runs.specs.Runs.{Answers}
use Rattle.suite_runs.specs.declared.run_fault.RunFault.{RunFault}
use Rattle.suite_runs.specs.declared.run_fault.RunFault.TheVariants as run
use Rattle.book_files.specs.SolveError.{IsBookErrorOf, IsPlaceErrorOf, IsSilent, run_error}
use Rattle.book_files.specs.declared.solve_error.SolveError.{SolveError}
use Rattle.book_files.specs.declared.solve_error.SolveError.TheVariants.{Program, Mixed, BadBook, BookOnDevice, BadPlace, OverwritesFile, OverwritesBookIn}
use Rattle.suite_solver.specs.Programs.{IfLimit, PassesLimit}

-- an error that names no limit
unlimited : (P : InputFault → Type 0) (error : SolveError) → ((fault : InputFault) → error ≡ Program (BadInput fault) → ⊥) → IfLimit P error
unlimited P (Program (BadInput fault)) none = absurd (none fault refl)
unlimited P (Program Memory) none = tt
unlimited P (Program BadWords) none = tt
unlimited P (Program CannotReadInput) none = tt
unlimited P (Program CannotWriteOutput) none = tt
unlimited P (Program (CannotRead name kind)) none = tt
unlimited P (Program (CannotWrite name kind)) none = tt
unlimited P Mixed none = tt
unlimited P (BadBook fault) none = tt
unlimited P (BookOnDevice name) none = tt
unlimited P (BadPlace name kind) none = tt
unlimited P (OverwritesFile name) none = tt
unlimited P (OverwritesBookIn name) none = tt

-- what follows from a limit that an error names
pub limit_to : (P Q : InputFault → Type 0) (error : SolveError) → ((fault : InputFault) → P fault → Q fault) → IfLimit P error → IfLimit Q error
limit_to P Q (Program (BadInput fault)) f h = f fault h
limit_to P Q (Program Memory) f h = tt
limit_to P Q (Program BadWords) f h = tt
limit_to P Q (Program CannotReadInput) f h = tt
limit_to P Q (Program CannotWriteOutput) f h = tt
limit_to P Q (Program (CannotRead name kind)) f h = tt
limit_to P Q (Program (CannotWrite name kind)) f h = tt
limit_to P Q Mixed f h = tt
limit_to P Q (BadBook fault) f h = tt
limit_to P Q (BookOnDevice name) f h = tt
limit_to P Q (BadPlace name kind) f h = tt
limit_to P Q (OverwritesFile name) f h = tt
limit_to P Q (OverwritesBookIn name) f h = tt

not_of_book : (name : Option (List ℕ)) (fault : InputFault) → IsBookErrorOf name (Program (BadInput fault)) → ⊥
not_of_book (Some text) fault is = is
not_of_book None fault is = is

pub book_unlimited : (name : Option (List ℕ)) (error : SolveError) (P : InputFault → Type 0) → IsBookErrorOf name error → IfLimit P error
book_unlimited name error P is = unlimited P error (λ fault e. not_of_book name fault (subst (IsBookErrorOf name) e is))

pub place_unlimited : (text : List ℕ) (error : SolveError) (P : InputFault → Type 0) → IsPlaceErrorOf text error → IfLimit P error
place_unlimited text error P is = unlimited P error (λ fault e. subst (IsPlaceErrorOf text) e is)

pub read_unlimited : (error : ProgramError) (P : InputFault → Type 0) → IsReadError error → IfLimit P (Program error)
read_unlimited (BadInput fault) P is = absurd is
read_unlimited Memory P is = tt
read_unlimited BadWords P is = tt
read_unlimited CannotReadInput P is = tt
read_unlimited CannotWriteOutput P is = tt
read_unlimited (CannotRead name kind) P is = tt
read_unlimited (CannotWrite name kind) P is = tt

-- an error of writing comes after the limits
pub written_unlimited : (r : Result (Unit {0}) SolveError) (P : InputFault → Type 0) → IfErr r (λ error. IsSilent error → ⊥) → IfErr r (IfLimit P)
written_unlimited (Ok nothing) P late = tt
written_unlimited (Err error) P late = unlimited P error (λ fault e. late (subst IsSilent (sym e) tt))

-- a limit that the texts pass, which are the first bytes of the files
pub limit_of_files : (names : List (List ℕ)) (given : Option (List ℕ)) (texts : List (List ℕ)) (error : SolveError) → AreFrontsOf names given texts
    → IfLimit (λ fault. refusal_of texts ≡ Some fault) error → IfLimit (PassesLimit names given) error
limit_of_files names given texts error fronts h =
    limit_to (λ fault. refusal_of texts ≡ Some fault) (PassesLimit names given) error (λ fault is. record { texts = texts; read = fronts; refused = is }) h

-- a run names the limit that its texts pass
pub run_limited : {X : Type 0} (P : X → Type 0) (texts : List (List ℕ)) (fault : RunFault) → Answers P texts (Err fault)
    → IfLimit (λ fault. refusal_of texts ≡ Some fault) (run_error fault)
run_limited P texts run.Memory a = tt
run_limited P texts run.Mixed a = tt
run_limited P texts run.TooManyFiles a = a
run_limited P texts (run.FileTooLarge sender) a = a
