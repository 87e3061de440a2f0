-- What the command lines of both programs have in common, as clap's contracts see it.
use Rattle.std.specs.Prelude.{◌≡◌, ◌≢◌, ◌⊎◌, ℕ, Bool, pos, true, false, List, [], ◌∷◌, map}
use Rattle.std.specs.Prelude.{Some, codes}
use Rattle.std.specs.Borrow.{Bor}
use Rattle.std.specs.Fmt.{decimal}
use Rattle.std.specs.Str.Parse.{IsNumeral, digits_value, without_leading_plus}
use Rattle.clap.specs.Faults.{fault_of}
use Rattle.clap.specs.Kinds.{IsAmong}
use Rattle.clap.specs.Lexer.{usize_max}
use Rattle.clap.specs.Words.{App, Row, Rule, Shape, Text, first_of, kind_of}
use Rattle.clap.specs.Words.{new_app, new_rule, one_of, takes, with_rule}
use Rattle.clap.specs.Simple.{on_top}
use Rattle.clap.specs.declared.builder.ArgAction.TheVariants.{Append, Set, SetTrue}
use Rattle.clap.specs.declared.builder.value_parser.ValueParser.TheVariants as parser
use Rattle.clap.specs.declared.error.Error.{Error}
use Rattle.clap.specs.declared.error.kind.ErrorKind.{ErrorKind}
use Rattle.clap.specs.declared.error.kind.ErrorKind.TheVariants.{DisplayHelp, DisplayVersion, OutOfMemory}
use Rattle.othello_rules.specs.Scores.{all_scorings, scoring_name}
use Rattle.othello_rules.specs.declared.scoring.Scoring.TheVariants.{Winner}
use Rattle.program_settings.specs.Settings.{SettingsView}
use Rattle.program_settings.specs.Limits.{most_empties, most_entries, most_workers}
use Rattle.program_settings.specs.Limits.{default_empties, default_entries, default_workers}
use Rattle.program_parts.specs.declared.option_fault.OptionFault.{OptionFault}
use Rattle.program_parts.specs.declared.option_fault.OptionFault.TheVariants.{Memory, Refused}

-- ---- the command

-- an option with a number from 0 to most, and with the decimal numeral of its default
abbrev pub number_rule : Text → ℕ → ℕ → Rule
number_rule name most default = record (new_rule name) {
  long = Some name;
  action = Some Set;
  value_names = 1;
  defaults = decimal default ∷ [];
  parser = Some (parser.Signed (pos 0) (pos most));
}

-- a list of names, which clap borrows from where it stands in memory
abbrev pub NameList : Type 0
NameList = Bor (List (Bor Text))

-- the list has the names of all scorings, in their order
abbrev pub NamesScorings : NameList → Type 0
NamesScorings names =
    map (λ name. name.now) names.now
    ≡ map scoring_name all_scorings

-- the option `--scoring`, whose value is one of these names
abbrev pub scoring_rule : NameList → Rule
scoring_rule names = record (new_rule (codes "scoring")) {
  long = Some (codes "scoring");
  action = Some Set;
  value_names = 1;
  defaults = scoring_name Winner ∷ [];
  parser = Some (parser.Names names);
}

-- a flag, which takes no value
abbrev pub flag_rule : Text → Rule
flag_rule name = record (new_rule name) { long = Some name; action = Some SetTrue }

-- the names of the files, of which there may be any number
abbrev pub files_rule : Rule
files_rule = record (new_rule (codes "FILES")) {
  action = Some Append;
  range = Some (record { start_inclusive = 0; end_inclusive = usize_max });
}

-- a command with `--help` and `--version`, and with no other option
abbrev pub versioned : Text → App
versioned name = on_top (λ (s : Shape). record s { has_version = true }) (new_app name)

-- the command with the options of the settings added
abbrev pub with_settings : App → NameList → App
with_settings app names = with_rule (with_rule (with_rule (with_rule (with_rule app
    (number_rule (codes "max-empties") most_empties default_empties))
    (number_rule (codes "workers") most_workers default_workers))
    (number_rule (codes "table") most_entries default_entries))
    (scoring_rule names))
    (flag_rule (codes "complete"))

-- ---- the matches of words

-- the value of the option, by the words or by default, is the decimal numeral of n
pub record HasNumber (name : Text) (rows : List Row) (n : ℕ) : Type 0 where
  pub text : Text
  pub given : one_of name rows ≡ Some text
  pub numeral : IsNumeral 10 (without_leading_plus text)
  pub value : n ≡ digits_value 10 (without_leading_plus text)

-- whether the flag is among the words
pub record HasFlag (name : Text) (rows : List Row) (b : Bool) : Type 0 where
  pub set : one_of name rows ≡ Some (codes "true") → b ≡ true
  pub unset : one_of name rows ≡ Some (codes "false") → b ≡ false

-- the settings are the values of the options
pub record HasSettings (c : SettingsView) (rows : List Row) : Type 0 where
  pub max_empties : HasNumber (codes "max-empties") rows c.max_empties
  pub workers : HasNumber (codes "workers") rows c.workers
  pub table : HasNumber (codes "table") rows c.table
  pub scoring : first_of (codes "scoring") rows ≡ Some (scoring_name c.scoring)
  pub complete : HasFlag (codes "complete") rows c.complete

-- ---- words that are refused

-- a command, by the list of the names of the scorings
abbrev pub Program : Type 0
Program = NameList → App

-- clap takes the words of a program, wherever the names of the scorings stand
abbrev pub IsTakenBy : Program → List Text → Type 0
IsTakenBy program words =
    (names : NameList) → NamesScorings names → takes (program names) words ≡ true

-- clap finds no fault in the words of a program
pub record IsFaultless (program : Program) (words : List Text) : Type 0 where
  pub names : NameList
  pub named : NamesScorings names
  pub faultless : fault_of (program names) words ≡ []

-- clap finds a fault of this kind in the words of a program; a request for help or for the version
-- is one
pub record HasFaultBy (program : Program) (words : List Text) (kind : ErrorKind) : Type 0 where
  pub names : NameList
  pub named : NamesScorings names
  pub found : IsAmong kind (fault_of (program names) words)

-- the words ask for help or for the version
abbrev pub AsksForText : Program → List Text → Type 0
AsksForText program words =
    HasFaultBy program words DisplayHelp ⊎ HasFaultBy program words DisplayVersion

-- the kinds of the errors that are not refusals: help and the version
abbrev pub IsTextKind : ErrorKind → Type 0
IsTextKind kind = (kind ≡ DisplayHelp) ⊎ (kind ≡ DisplayVersion)

-- clap finds a fault in the words of a program that is no request for help or for the version
pub record IsRefusedBy (program : Program) (words : List Text) : Type 0 where
  pub kind : ErrorKind
  pub found : HasFaultBy program words kind
  pub unasked : IsTextKind kind → ⊥

-- the fault is `Memory`, or an error of a kind that clap finds in the words of a program
abbrev pub IsFaultFor : Program → List Text → OptionFault → Type 0
IsFaultFor program words Memory = Unit {0}
IsFaultFor program words (Refused error) = HasFaultBy program words (kind_of error)

-- the fault for an error of clap: `Memory` if clap ran out of memory, otherwise `Refused` with
-- the error
abbrev pub IsFaultBy : Error → OptionFault → Type 0
IsFaultBy error fault =
    ((kind_of error ≡ OutOfMemory) × (fault ≡ Memory))
    ⊎ ((kind_of error ≢ OutOfMemory) × (fault ≡ Refused error))
