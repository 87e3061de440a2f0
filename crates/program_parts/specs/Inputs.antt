-- The files that a program reads.
use Rattle.std.specs.Prelude.{◌≡◌, ℕ, ◌+◌, List, [], ◌∷◌, length, map, min}
use Rattle.std.specs.Prelude.{Option, String, IfSome, string_bytes, take}
use Rattle.std.specs.declared.alloc.Global.{Global}
use Rattle.program_settings.specs.Limits.{most_bytes, most_files}

-- the bytes of each name
abbrev pub names_of : List (String Global) → List (List ℕ)
names_of names = map string_bytes names

-- These are the fronts of the texts of a run, as they are read. Without file names there is one:
-- the first bytes of standard input, one more than a file may have, if these are known.
-- Otherwise there is one for each of the first names, one more than a run may have; the content of
-- a file is not known.
abbrev pub AreFrontsOf : List (List ℕ) → Option (List ℕ) → List (List ℕ) → Type 0
AreFrontsOf [] given fronts = IfSome given (λ text. fronts ≡ take (most_bytes + 1) text ∷ [])
AreFrontsOf (name ∷ names) given fronts =
    length fronts ≡ min (most_files + 1) (length (name ∷ names))

-- These are the texts of a run. Without file names there is one, which is the text on standard
-- input, if that is known. Otherwise there is one for each name; the content of a file is not
-- known.
abbrev pub AreTextsOf : List (List ℕ) → Option (List ℕ) → List (List ℕ) → Type 0
AreTextsOf [] given texts = IfSome given (λ text. texts ≡ text ∷ [])
AreTextsOf (name ∷ names) given texts = length texts ≡ length (name ∷ names)
