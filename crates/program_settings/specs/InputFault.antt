-- Which files are refused, and the texts of the refusals.
use Rattle.std.specs.Prelude.{◌≡◌, ◌+◌, ◌++◌, ℕ, nat_lt, Bool, List, codes, length, option_map, Option, Some, None, Result, Ok, Err, if◌then◌else◌}
use Rattle.std.specs.Fmt.{decimal}
use Rattle.std.specs.List.{position}
use Rattle.program_settings.specs.Limits.{most_bytes, most_files}
use Rattle.program_settings.specs.declared.input_fault.InputFault.{InputFault}
use Rattle.program_settings.specs.declared.input_fault.InputFault.TheVariants.{TooManyFiles, FileTooLarge}

-- a file is named by its number plus 1, since files count from 0
unfoldable pub input_fault_text : InputFault → List ℕ
input_fault_text TooManyFiles = codes "more than " ++ (decimal most_files ++ codes " files")
input_fault_text (FileTooLarge number) =
    codes "file " ++ (decimal (number + 1)
    ++ (codes " is larger than " ++ (decimal most_bytes ++ codes " bytes")))

-- the text has more than most_bytes bytes
abbrev pub is_large : List ℕ → Bool
is_large text = nat_lt most_bytes (length text)

-- the number of the first text of more than most_bytes bytes
abbrev pub first_large : List (List ℕ) → Option ℕ
first_large texts = position is_large texts

-- the refusal of texts: more than most_files, otherwise the first of more than most_bytes bytes
unfoldable pub refusal_of : List (List ℕ) → Option InputFault
refusal_of texts =
    if nat_lt most_files (length texts) then Some TooManyFiles
    else option_map FileTooLarge (first_large texts)

-- the result is the refusal of the texts, or Ok if there is none
abbrev pub Refuses : Result (Unit {0}) InputFault → List (List ℕ) → Type 0
Refuses (Ok nothing) texts = refusal_of texts ≡ None
Refuses (Err fault) texts = refusal_of texts ≡ Some fault
