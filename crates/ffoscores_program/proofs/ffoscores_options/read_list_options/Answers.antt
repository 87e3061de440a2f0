use Rattle.std.proofs.Common.{◌∙◌, List, [], Option, ap, map, refl, subst, sym, codes}
use Rattle.std.specs.Prelude.{IfSome, unwrap_or}
use Rattle.std.specs.Borrow.{Bor}
use Rattle.clap.specs.Words.{App, Row, Text, all_of, found_of, fault_of, is_simple_and_free, rows_of}
use Rattle.clap.proofs.OnLiterals.{clap_on_literals}
use Rattle.clap.proofs.WalkLemmas.{raw_values-rows}
use Rattle.program_parts.proofs.OptionLemmas.{TakesSettings, refused_fault, rows_asked, settings_asked, taken_fault}
use Rattle.program_parts.specs.CommandLine.{HasSettings}
use Rattle.ffoscores_program.specs.Options.{ffoscores}
use Rattle.ffoscores_program.proofs.ffoscores_options.read_list_options.Goals as goal

takes : TakesSettings ffoscores
unfolding clap_on_literals
takes = record {
  simple = λ names. refl;
  free = λ names. refl;
  leaves = λ names. refl;
  rules = λ names. record {
    ready = refl;
    max_empties = refl;
    workers = refl;
    table = refl;
    scoring = refl;
    one_max_empties = refl;
    one_workers = refl;
    one_table = refl;
    one_scoring = refl;
  };
}

pub unwrap-settings-requires : goal.unwrap-settings-requires
unwrap-settings-requires c =
    let named = ap (map (λ (name : Bor Text). name.now)) c.as_slice.ensures ∙ c.names-names.ensures in
    let given =
    settings_asked ffoscores takes c.as_slice.result c.in_ok-command.command c.in_ok-matches.matches named
    c.in_ok-command.ensures c.in_ok-matches.ensures.parsed in
    c.settings_of.ensures.found given.0 given.1 given.2

pub returns-clause-asked : goal.returns-clause-asked
returns-clause-asked c =
    let names = c.as_slice.result in
    let words : List Text = map (λ w. w.now) c.args.words.now in
    let app = c.in_ok-command.ensures in
    let found = found_of c.in_ok-matches.matches in
    let rows = rows_asked ffoscores takes names words _ c.in_ok-matches.matches app c.in_ok-matches.ensures.matches in
    record {
      names = names;
      named = ap (map (λ (name : Bor Text). name.now)) c.as_slice.ensures ∙ c.names-names.ensures;
      faultless = ap (λ (a : App). fault_of a words) (sym app) ∙ c.in_ok-matches.ensures.kinds (ap is_simple_and_free app ∙ takes.free names);
      settings = subst (λ (r : List Row). HasSettings c.unwrap-settings.result r) rows
          (subst (λ o. IfSome o (λ s. HasSettings s (rows_of found))) c.unwrap-settings.ensures c.settings_of.ensures.value);
      listed =
          c.in_ok-files.ensures ∙ ap (λ (o : Option (List Text)). unwrap_or o []) (raw_values-rows found (codes "FILES") ∙ ap (all_of (codes "FILES")) rows);
    }

pub returns-in_err-matches-clause-taken : goal.returns-in_err-matches-clause-taken
returns-in_err-matches-clause-taken c =
    let named = ap (map (λ (name : Bor Text). name.now)) c.as_slice.ensures ∙ c.names-names.ensures in
    taken_fault ffoscores c.as_slice.result (map (λ w. w.now) c.args.words.now) _ c.in_err-matches.field-0.0 c.from_residual-in_err-matches.result
    named c.in_ok-command.ensures c.in_err-matches.ensures.passes c.from_residual-in_err-matches.ensures.1

pub returns-in_err-matches-clause-refused : goal.returns-in_err-matches-clause-refused
returns-in_err-matches-clause-refused c =
    let named = ap (map (λ (name : Bor Text). name.now)) c.as_slice.ensures ∙ c.names-names.ensures in
    refused_fault ffoscores takes c.as_slice.result (map (λ w. w.now) c.args.words.now) _ c.in_err-matches.field-0.0 c.from_residual-in_err-matches.result
    named c.in_ok-command.ensures c.in_err-matches.ensures.kinds c.from_residual-in_err-matches.ensures.1
