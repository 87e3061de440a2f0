-- The options of `ffoscores`, as clap's contracts see them.
use Rattle.std.specs.Prelude.{◌≡◌, List, [], codes, unwrap_or}
use Rattle.clap.specs.Faults.{fault_of}
use Rattle.clap.specs.Words.{App, Text, all_of, matches_of, with_rule}
use Rattle.program_settings.specs.Settings.{SettingsView}
use Rattle.program_parts.specs.CommandLine.{HasSettings, NameList, NamesScorings}
use Rattle.program_parts.specs.CommandLine.{files_rule, versioned, with_settings}
use Rattle.program_parts.specs.Inputs.{names_of}
use Rattle.ffoscores_program.specs.declared.ffoscores_options.ListOptions.{ListOptions}

-- the whole command `ffoscores`
abbrev pub ffoscores : NameList → App
ffoscores names = with_rule (with_settings (versioned (codes "ffoscores")) names) files_rule

-- a request to `ffoscores`: settings, and the names of files
pub record ListRequest : Type 0 where
  pub settings : SettingsView
  pub files : List Text

-- the request that options of `ffoscores` hold
abbrev pub list_request_of : ListOptions → ListRequest
list_request_of o = record { settings = o.settings; files = names_of o.files.items }

-- the words ask for the request: clap finds no fault in them, and the request has the values in the
-- matches that clap defines for the words and the command `ffoscores`
pub record AsksLists (words : List Text) (r : ListRequest) : Type 0 where
  pub names : NameList
  pub named : NamesScorings names
  pub faultless : fault_of (ffoscores names) words ≡ []
  pub settings : HasSettings r.settings (matches_of (ffoscores names) words)
  pub listed : r.files ≡ unwrap_or (all_of (codes "FILES") (matches_of (ffoscores names) words)) []
