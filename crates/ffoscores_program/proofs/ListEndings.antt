-- How the printing of lists ended.
use Rattle.std.proofs.Common.{◌≡◌, ◌⊎◌, ◌≤◌, ℕ, List, arith, length, inl, inr, subst, sym}
use Rattle.std.specs.Prelude.{Bool, Option, None, Result, Ok, Err, IfOk, OnErr, OnOk, codes}
use Rattle.std.specs.Io.KnownBytes.{Appends}
use Rattle.scored_lines.specs.Lines.{lists_right, lists_text}
use Rattle.written_bytes.specs.WrittenBytes.{AppendsFront}
use Rattle.program_settings.specs.InputFault.{first_large}
use Rattle.program_settings.specs.declared.limits.TheConstants.{MOST_FILES}
use Rattle.program_settings.specs.Settings.{criteria_of}
use Rattle.ffoscores_program.specs.Options.{AsksLists, ListRequest, ffoscores}
use Rattle.ffoscores_program.specs.Lists.{AreLists, EndsEarly, IsSilent, NamesListOf, NamesListOfWords, list_status_of}
use Rattle.ffoscores_program.specs.Lists.{PrintsLists, ShowsEnding, StopsLists}
use Rattle.program_parts.specs.CommandLine.{IsFaultless}
use Rattle.program_parts.specs.Inputs.{AreFrontsOf}
use Rattle.program_parts.specs.ProgramError.{error_text}
use Rattle.program_parts.specs.declared.program_error.ProgramError.{ProgramError}
use Rattle.program_parts.specs.declared.program_error.ProgramError.TheVariants.{BadInput, BadWords, CannotRead}
use Rattle.program_parts.specs.declared.program_error.ProgramError.TheVariants.{CannotReadInput, CannotWrite, CannotWriteOutput, Memory}
use Rattle.program_parts.proofs.EndingLemmas.{not_one, whole_texts}

-- what was read is lists, where no limit is passed
pub lists_read : (names : List (List ℕ)) (given : Option (List ℕ)) (texts : List (List ℕ)) → AreFrontsOf names given texts
    → length texts ≤ MOST_FILES → first_large texts ≡ None → AreLists names given texts
lists_read names given texts fronts few small = record { read = whole_texts names given texts fronts small few; few = few; small = small }

pub printed : (r : Result Bool ProgramError) (q : ListRequest) (given old new : Option (List ℕ)) (texts : List (List ℕ))
    → AreLists q.files given texts → OnOk r (Appends old new (lists_text q.settings.scoring (criteria_of q.settings) texts))
    → IfOk r (λ right. right ≡ lists_right q.settings.scoring (criteria_of q.settings) texts) → IfOk r (PrintsLists q given old new)
printed (Ok right) q given old new texts lists written e = record { texts = texts; lists = lists; written = written; verdict = e }
printed (Err error) q given old new texts lists written e = tt

pub stopped : (r : Result Bool ProgramError) (q : ListRequest) (given old new : Option (List ℕ)) (texts : List (List ℕ))
    → AreLists q.files given texts → OnErr r (AppendsFront old new (lists_text q.settings.scoring (criteria_of q.settings) texts))
    → OnErr r (StopsLists q given old new)
stopped (Ok right) q given old new texts lists front = tt
stopped (Err error) q given old new texts lists front = inr (record { texts = texts; lists = lists; front = front })

-- clap finds no fault in words that ask for a request
pub asked_faultless : (words : List (List ℕ)) (r : ListRequest) → AsksLists words r → IsFaultless ffoscores words
asked_faultless words r a = record { names = a.names; named = a.named; faultless = a.faultless }

-- ---- what standard error gets

named_list : (words : List (List ℕ)) (r : ListRequest) (error : ProgramError) → AsksLists words r → NamesListOf r.files error → NamesListOfWords words error
named_list words r Memory asks names = tt
named_list words r CannotWriteOutput asks names = tt
named_list words r (BadInput fault) asks names = (r, (asks, names))
named_list words r BadWords asks names = (r, (asks, names))
named_list words r CannotReadInput asks names = (r, (asks, names))
named_list words r (CannotRead name kind) asks names = (r, (asks, names))
named_list words r (CannotWrite name kind) asks names = (r, (asks, names))

-- an error of reading or printing the lists
pub by_error : (words : List (List ℕ)) (old new given made : Option (List ℕ)) (s : ℕ) (r : ListRequest) (error : ProgramError)
    → AsksLists words r → NamesListOf r.files error → list_status_of error ≡ s → list_status_of error ≡ 3
    → Appends old new (error_text (codes "ffoscores") error) → (IsSilent error → made ≡ given) → ShowsEnding words old new given made s
by_error words old new given made s r error asks names ended three shown unwritten = record { quiet = quiet; failed = failed }
  where
    quiet : (s ≡ 0) ⊎ (s ≡ 1) → new ≡ old
    quiet (inl done) = absurd (omega (arith, done, ended, three))
    quiet (inr one) = absurd (omega (arith, one, ended, three))

    failed : s ≡ 3 → EndsEarly words old new given made s
    failed is = record { error = error; ended = ended; named = named_list words r error asks names; shown = shown; unwritten = unwritten }

-- help or a refusal, or standard output that fails meanwhile
pub without_options : (words : List (List ℕ)) (old new given made : Option (List ℕ)) (s : ℕ) → (s ≡ 0) ⊎ ((s ≡ 2) ⊎ (s ≡ 3)) → (s ≡ 0 → new ≡ old)
    → (s ≡ 3 → Appends old new (error_text (codes "ffoscores") CannotWriteOutput)) → ShowsEnding words old new given made s
without_options words old new given made s is quiet failed = record { quiet = by; failed = of_output }
  where
    by : (s ≡ 0) ⊎ (s ≡ 1) → new ≡ old
    by (inl done) = quiet done
    by (inr one) = not_one s (new ≡ old) is one

    of_output : s ≡ 3 → EndsEarly words old new given made s
    of_output three = record {
      error = CannotWriteOutput;
      ended = sym three;
      named = tt;
      shown = failed three;
      unwritten = λ silent. absurd silent;
    }

-- what is said of words is said of the same words
pub ending_words : (words same : List (List ℕ)) (old new given made : Option (List ℕ)) (s : ℕ) → words ≡ same
    → ShowsEnding words old new given made s → ShowsEnding same old new given made s
ending_words words same old new given made s e h = subst (λ w. ShowsEnding w old new given made s) e h
