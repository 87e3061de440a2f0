-- The version as a text and as a number.
use Rattle.std.specs.Prelude.{◌≡◌, ◌++◌, ◌/◌, ◌%◌, ℕ, List, codes, refl}
use Rattle.std.specs.Fmt.{decimal, digits}
use Rattle.program_settings.specs.declared.version.TheConstants.{VERSION, VERSION_NUMBER}

-- the text of the version with this number
abbrev pub version_text : ℕ → List ℕ
version_text n = decimal (n / 10000) ++ codes "." ++ decimal (n / 100 % 100) ++ codes "." ++ decimal (n % 100)

-- the text in the code is that of the number in the code
version_in_code : VERSION.now ≡ version_text VERSION_NUMBER
unfolding digits
version_in_code = refl
