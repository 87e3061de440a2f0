-- The options of `ffosolve`, as clap's contracts see them.
use Rattle.std.specs.Prelude.{◌≡◌, Bool, List, [], codes, Option, Some, option_map, string_bytes, unwrap_or}
use Rattle.clap.specs.Faults.{fault_of}
use Rattle.clap.specs.Words.{App, Rule, Text, all_of, first_of, matches_of, new_rule, with_rule}
use Rattle.program_settings.specs.Settings.{SettingsView}
use Rattle.program_parts.specs.CommandLine.{HasFlag, HasSettings, IsFaultFor, IsTakenBy, NameList, NamesScorings}
use Rattle.program_parts.specs.CommandLine.{files_rule, flag_rule, versioned, with_settings}
use Rattle.program_parts.specs.Inputs.{names_of}
use Rattle.program_parts.specs.declared.option_fault.OptionFault.{OptionFault}
use Rattle.suite_solver.specs.declared.ffosolve_options.Options.{Options}

-- an option with the name of a book's file
abbrev pub book_rule : Text → Rule
book_rule name = record (new_rule name) { long = Some name; value_names = 1 }

-- the whole command `ffosolve`
abbrev pub ffosolve : NameList → App
ffosolve names = with_rule (with_rule (with_rule (with_rule
    (with_settings (versioned (codes "ffosolve")) names)
    (book_rule (codes "book-in")))
    (book_rule (codes "book-out")))
    (flag_rule (codes "progress")))
    files_rule

-- a request to `ffosolve`: settings, the names of a book to read and of a book to write, if
-- there are any, whether to report progress, and the names of files
pub record Request : Type 0 where
  pub settings : SettingsView
  pub book_in : Option Text
  pub book_out : Option Text
  pub progress : Bool
  pub files : List Text

-- the request that options hold
abbrev pub request_of : Options → Request
request_of o = record {
  settings = o.settings;
  book_in = option_map string_bytes o.book_in;
  book_out = option_map string_bytes o.book_out;
  progress = o.progress;
  files = names_of o.files.items;
}

-- The words ask for the request: clap finds no fault in them, and the request has the values in the
-- matches that clap defines for the words and the command.
pub record Asks (words : List Text) (r : Request) : Type 0 where
  pub names : NameList
  pub named : NamesScorings names
  pub faultless : fault_of (ffosolve names) words ≡ []
  pub settings : HasSettings r.settings (matches_of (ffosolve names) words)
  pub book_in : r.book_in ≡ first_of (codes "book-in") (matches_of (ffosolve names) words)
  pub book_out : r.book_out ≡ first_of (codes "book-out") (matches_of (ffosolve names) words)
  pub progress : HasFlag (codes "progress") (matches_of (ffosolve names) words) r.progress
  pub listed : r.files ≡ unwrap_or (all_of (codes "FILES") (matches_of (ffosolve names) words)) []

-- clap takes the words of `ffosolve`
abbrev pub IsTaken : List Text → Type 0
IsTaken words = IsTakenBy ffosolve words

-- the fault is `Memory`, or an error of a kind that clap finds in the words of `ffosolve`
abbrev pub IsFaultOf : List Text → OptionFault → Type 0
IsFaultOf words fault = IsFaultFor ffosolve words fault
