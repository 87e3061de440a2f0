-- How a call of `ffosolve` ended.
use Rattle.std.proofs.Common.{◌≡◌, ◌⊎◌, ℕ, List, Option, sym, subst, ◌∙◌, arith, inl, inr, refl}
use Rattle.std.specs.Prelude.{Result, Ok, Err, IfErr, IfSome, IsSome, OnErr, OnOk, Some, None, codes, false}
use Rattle.program_settings.specs.Settings.{SettingsView, criteria_of}
use Rattle.suite_reports.specs.Reports.{reports}
use Rattle.suite_runs.specs.Runs.{AreFilesOf}
use Rattle.suite_runs.specs.declared.solved_files.SolvedFiles.{SolvedFiles}
use Rattle.book_files.specs.BookPlace.{IsBookTextOf}
use Rattle.book_files.specs.declared.new_file.NewFile.{NewFile}
use Rattle.std.specs.List.{concat}
use Rattle.std.specs.Io.KnownBytes.{Appends}
use Rattle.written_bytes.proofs.WrittenParts.{front_all}
use Rattle.program_parts.proofs.EndingLemmas.{not_one, whole_texts}
use Rattle.program_parts.specs.CommandLine.{IsFaultless}
use Rattle.program_parts.specs.Inputs.{AreFrontsOf}
use Rattle.program_parts.specs.ProgramError.{error_reason, error_text}
use Rattle.program_parts.specs.declared.program_error.ProgramError.TheVariants.{Memory, BadInput, BadWords, CannotReadInput, CannotWriteOutput}
use Rattle.program_parts.specs.declared.program_error.ProgramError.TheVariants.{CannotRead, CannotWrite}
use Rattle.suite_solver.specs.Options.{Asks, Request, ffosolve}
use Rattle.suite_solver.specs.Programs.{EndsEarly, IfLimit, IsBookUnwritten, NamesFileOf, NamesFileOfWords, PassesLimit}
use Rattle.suite_solver.specs.Programs.{PassesLimitOfWords, PrintsFront, PrintsReportsOf, ShowsEnding, StopsReports}
use Rattle.suite_solver.proofs.LimitLemmas.{limit_to}
use Rattle.book_files.specs.SolveError.{IsSilent, solve_error_reason, solve_error_text, solve_status_of}
use Rattle.book_files.specs.declared.solve_error.SolveError.{SolveError}
use Rattle.book_files.specs.declared.solve_error.SolveError.TheVariants.{Program, Mixed, BadBook, BookOnDevice, BadPlace, OverwritesFile, OverwritesBookIn}

-- the book made ready is that of the files
pub book_of_files : (o : Option NewFile) (s : SettingsView) (texts : List (List ℕ)) (files : SolvedFiles) → AreFilesOf s texts files
    → IfSome o (λ (file : NewFile). IsBookTextOf files file.text.items)
    → IfSome o (λ (file : NewFile). (x : SolvedFiles) × (AreFilesOf s texts x) × (IsBookTextOf x file.text.items))
book_of_files None s texts files are h = tt
book_of_files (Some file) s texts files are h = (files, are, h)

pub on_ok : (r : Result (Unit {0}) SolveError) (P : Type 0) → P → OnOk r P
on_ok (Ok nothing) P p = p
on_ok (Err error) P p = tt

pub on_err : {T : Type 0} (r : Result T SolveError) (P : Type 0) → P → OnErr r P
on_err (Ok made) P p = tt
on_err (Err error) P p = p

-- what was printed of the texts that were read was printed of the files
pub stops_of_files : (c : SettingsView) (names : List (List ℕ)) (given old new : Option (List ℕ)) (texts : List (List ℕ))
    → AreFrontsOf names given texts → (new ≡ old) ⊎ PrintsFront c texts old new → StopsReports c names given old new
stops_of_files c names given old new texts fronts (inl same) = inl same
stops_of_files c names given old new texts fronts (inr p) =
    inr (record { texts = texts; read = whole_texts names given texts fronts p.small p.few; printed = p })

-- all reports are a front of them
pub stops_at_end : (c : SettingsView) (names : List (List ℕ)) (given old new : Option (List ℕ))
    → PrintsReportsOf c names given old new → StopsReports c names given old new
stops_at_end c names given old new p = inr (record {
  texts = p.texts;
  read = p.read;
  printed = record {
    few = p.printed.few;
    small = p.printed.small;
    front = front_all _ _ (concat (reports c.scoring (criteria_of c) p.texts)) p.printed.written;
  };
})

-- an error that comes before anything is printed isn't that of the book
pub silent_not_book : (error : SolveError) (P : Type 0) → IsSilent error → IsBookUnwritten error → P
silent_not_book (Program (CannotWrite name kind)) P silent is = absurd silent
silent_not_book (Program Memory) P silent is = absurd is
silent_not_book (Program (BadInput fault)) P silent is = absurd is
silent_not_book (Program BadWords) P silent is = absurd is
silent_not_book (Program CannotReadInput) P silent is = absurd is
silent_not_book (Program CannotWriteOutput) P silent is = absurd is
silent_not_book (Program (CannotRead name kind)) P silent is = absurd is
silent_not_book Mixed P silent is = absurd is
silent_not_book (BadBook fault) P silent is = absurd is
silent_not_book (BookOnDevice name) P silent is = absurd is
silent_not_book (BadPlace name kind) P silent is = absurd is
silent_not_book (OverwritesFile name) P silent is = absurd is
silent_not_book (OverwritesBookIn name) P silent is = absurd is

-- an error that isn't that of the book is of no concern
pub of_none : (error : SolveError) (P : Type 0) → (IsBookUnwritten error → ⊥) → IsBookUnwritten error → P
of_none error P none is = absurd (none is)

-- whatever the error of the book, the reports were printed
pub booked : (r : Result (Unit {0}) SolveError) (P : Type 0) → P → IfErr r (λ error. IsBookUnwritten error → P)
booked (Ok nothing) P p = tt
booked (Err error) P p = λ is. p

-- an error after the reports does not come before them
pub error_late : (r : Result (Unit {0}) SolveError) (P : Type 0) → IfErr r (λ error. IsSilent error → ⊥) → IfErr r (λ error. IsSilent error → P)
error_late (Ok nothing) P h = tt
error_late (Err error) P h = λ silent. absurd (h silent)

three_not_one : (error : SolveError) → solve_status_of error ≡ 3 → solve_status_of error ≡ 1 → ⊥
three_not_one error three one = let e = sym three ∙ one in omega (arith, e)

pub not_refused : (r : Result (Unit {0}) SolveError) (P : Type 0) → IfErr r (λ error. solve_status_of error ≡ 3)
    → IfErr r (λ error. solve_status_of error ≡ 1 → P)
not_refused (Ok nothing) P h = tt
not_refused (Err error) P h = λ one. absurd (three_not_one error h one)

-- clap finds no fault in words that ask for a request
pub asked_faultless : (words : List (List ℕ)) (r : Request) → Asks words r → IsFaultless ffosolve words
asked_faultless words r a = record { names = a.names; named = a.named; faultless = a.faultless }

-- ---- what standard error gets

-- help or a refusal, or standard output that fails meanwhile
pub without_options : (words : List (List ℕ)) (Seen : Type 0) (input old new given made : Option (List ℕ)) (s : ℕ) → (s ≡ 0) ⊎ ((s ≡ 2) ⊎ (s ≡ 3))
    → (Seen → IsSome old) → (s ≡ 0 → new ≡ old) → (s ≡ 3 → Appends old new (error_text (codes "ffosolve") CannotWriteOutput))
    → ShowsEnding words Seen input old new given made s
unfolding error_text solve_error_text solve_error_reason error_reason
without_options words Seen input old new given made s is seen quiet failed = record { quiet = λ none. quiet; failed = by }
  where
    by : (s ≡ 1) ⊎ (s ≡ 3) → EndsEarly words Seen input old new given made s
    by (inl one) = not_one s (EndsEarly words Seen input old new given made s) is one
    by (inr three) = record {
      error = Program CannotWriteOutput;
      ended = sym three;
      named = tt;
      held = old;
      quiet = λ none. refl;
      seen = seen;
      shown = failed three;
      unwritten = λ silent. absurd silent;
      booked = λ is. absurd is;
      limits = tt;
    }

-- the file that an error names is one of the words, if it is one of the request that they ask for
named_words : (words : List (List ℕ)) (r : Request) (error : SolveError) → Asks words r → NamesFileOf r error → NamesFileOfWords words error
named_words words r (Program Memory) asks names = tt
named_words words r (Program CannotWriteOutput) asks names = tt
named_words words r (Program (BadInput fault)) asks names = (r, (asks, names))
named_words words r (Program BadWords) asks names = (r, (asks, names))
named_words words r (Program CannotReadInput) asks names = (r, (asks, names))
named_words words r (Program (CannotRead name kind)) asks names = (r, (asks, names))
named_words words r (Program (CannotWrite name kind)) asks names = (r, (asks, names))
named_words words r Mixed asks names = (r, (asks, names))
named_words words r (BadBook fault) asks names = (r, (asks, names))
named_words words r (BookOnDevice name) asks names = (r, (asks, names))
named_words words r (BadPlace name kind) asks names = (r, (asks, names))
named_words words r (OverwritesFile name) asks names = (r, (asks, names))
named_words words r (OverwritesBookIn name) asks names = (r, (asks, names))

not_zero : (n s : ℕ) → (n ≡ 1) ⊎ (n ≡ 3) → n ≡ s → s ≡ 0 → ⊥
not_zero n s (inl one) e zero = omega (arith, one, e, zero)
not_zero n s (inr three) e zero = omega (arith, three, e, zero)

-- an error of the run, which came when standard error held `held`
pub by_error : (words : List (List ℕ)) (Seen : Type 0) (input old held new given made : Option (List ℕ)) (s : ℕ) (r : Request) (error : SolveError)
    → Asks words r → NamesFileOf r error → solve_status_of error ≡ s → (r.progress ≡ false → held ≡ old) → (Seen → IsSome held)
    → Appends held new (solve_error_text error) → (IsSilent error → made ≡ given) → (solve_status_of error ≡ 1) ⊎ (solve_status_of error ≡ 3)
    → (IsBookUnwritten error → PrintsReportsOf r.settings r.files input given made) → IfLimit (PassesLimit r.files input) error
    → ShowsEnding words Seen input old new given made s
by_error words Seen input old held new given made s r error asks names ended quiet seen shown unwritten status booked limits = record {
  quiet = λ none zero. absurd (not_zero _ s status ended zero);
  failed = λ is. record {
    error = error;
    ended = ended;
    named = named_words words r error asks names;
    held = held;
    quiet = λ none. quiet (none r asks);
    seen = seen;
    shown = shown;
    unwritten = unwritten;
    booked = λ is. record { request = r; asked = asks; printed = booked is };
    limits = limit_to (PassesLimit r.files input) (PassesLimitOfWords words input) error
        (λ fault p. record { request = r; asked = asks; passed = p }) limits;
  };
}

-- what is said of words is said of the same words
pub ending_words : (words same : List (List ℕ)) (Seen : Type 0) (input old new given made : Option (List ℕ)) (s : ℕ) → words ≡ same
    → ShowsEnding words Seen input old new given made s → ShowsEnding same Seen input old new given made s
ending_words words same Seen input old new given made s e h = subst (λ w. ShowsEnding w Seen input old new given made s) e h
