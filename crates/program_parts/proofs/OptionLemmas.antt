-- How the words of a program that has the options of the settings are read.
use Rattle.std.proofs.Common.{◌≡◌, ◌∙◌, List, ap, inl, inr, subst, sym, true}
use Rattle.std.specs.List.{list_all}
use Rattle.std.specs.Prelude.{Result, IfErr}
use Rattle.std.specs.Result.{IsErrAnd}
use Rattle.std.proofs.lemmas.Result.{err_from_is_err_and}
use Rattle.clap.specs.Words.{App, HasKind, HasMatchesOf, IsParsedFrom, Text, app_of, fault_of, found_of, is_simple}
use Rattle.clap.specs.Words.{is_simple_and_free, kind_of, matches_of, rows_of, takes}
use Rattle.clap.specs.Simple.{HasReadyLeaves, is_ready_leaf}
use Rattle.clap.specs.declared.builder.command.Command.{Command}
use Rattle.clap.specs.declared.error.Error.{Error}
use Rattle.clap.specs.declared.error.kind.ErrorKind.TheVariants.{OutOfMemory}
use Rattle.clap.specs.declared.parser.matches.ArgMatches.{ArgMatches}
use Rattle.program_settings.specs.Settings.{IsWithinLimits, SettingsView}
use Rattle.program_parts.specs.CommandLine.{HasSettings, IsFaultBy, IsFaultFor, IsTakenBy, NameList, NamesScorings, Program}
use Rattle.program_parts.specs.declared.option_fault.OptionFault.{OptionFault}
use Rattle.program_parts.specs.declared.option_fault.OptionFault.TheVariants.{Memory}
use Rattle.program_parts.proofs.SettingsLemmas.{HasSettingsRules, settings_given}

-- what is computed for a program that has the options of the settings
pub record TakesSettings (program : Program) : Type 0 where
  pub simple : (names : NameList) → is_simple (program names) ≡ true
  pub free : (names : NameList) → is_simple_and_free (program names) ≡ true
  pub leaves : (names : NameList) → list_all is_ready_leaf (program names).subs ≡ true
  pub rules : (names : NameList) → HasSettingsRules names (program names).top

-- the matches have settings
pub settings_asked : (program : Program) → TakesSettings program → (names : NameList) (c : Command) (m : ArgMatches)
    → NamesScorings names → app_of c ≡ program names → IsParsedFrom c m
    → (s : SettingsView) × IsWithinLimits s × HasSettings s (rows_of (found_of m))
settings_asked program takes names c m named app parsed =
    let leaves : HasReadyLeaves c = ap (λ (a : App). list_all is_ready_leaf a.subs) app ∙ takes.leaves names in
    settings_given c m names parsed leaves named (subst (λ (a : App). HasSettingsRules names a.top) (sym app) (takes.rules names))

-- the matches are those that clap defines for the words
pub rows_asked : (program : Program) → TakesSettings program → (names : NameList) (words : List Text) (a : App) (m : ArgMatches)
    → a ≡ program names → HasMatchesOf a words m → rows_of (found_of m) ≡ matches_of (program names) words
rows_asked program takes names words a m app matches =
    (matches (ap is_simple app ∙ takes.simple names)).0 ∙ ap (λ (a : App). matches_of a words) app

-- the only fault of words that clap takes is `Memory`
pub taken_fault : {T : Type 0} (program : Program) (names : NameList) (words : List Text) (a : App) (e : Error) (r : Result T OptionFault)
    → NamesScorings names → a ≡ program names → (takes a words ≡ true → kind_of e ≡ OutOfMemory) → IsErrAnd r (IsFaultBy e)
    → IsTakenBy program words → IfErr r (λ fault. fault ≡ Memory)
taken_fault program names words a e r named app passes fault taken =
    let p = err_from_is_err_and r fault in
    rw p.1 (elim p.2 [
      | inl memory ↦ memory.1
      | inr other ↦ absurd (other.0 (passes (ap (λ (a : App). takes a words) app ∙ taken names named)))
    ])

-- a fault is `Memory`, or of a kind that clap finds in the words
pub refused_fault : {T : Type 0} (program : Program) → TakesSettings program
    → (names : NameList) (words : List Text) (a : App) (e : Error) (r : Result T OptionFault)
    → NamesScorings names → a ≡ program names → (is_simple_and_free a ≡ true → HasKind (fault_of a words) e) → IsErrAnd r (IsFaultBy e)
    → IfErr r (IsFaultFor program words)
refused_fault program takes names words a e r named app kinds fault =
    let p = err_from_is_err_and r fault in
    let found = subst (λ (a : App). HasKind (fault_of a words) e) app (kinds (ap is_simple_and_free app ∙ takes.free names)) in
    rw p.1 (elim p.2 [
      | inl memory ↦ subst (λ (f : OptionFault). IsFaultFor program words f) (sym memory.1) tt
      | inr other ↦ subst (λ (f : OptionFault). IsFaultFor program words f) (sym other.1) (elim found [
        | inl memory ↦ absurd (other.0 memory)
        | inr among ↦ record { names = names; named = named; found = among }
      ])
    ])
