-- A parse that succeeds finds settings, since each of their options has a default.
use Rattle.std.proofs.Common.{◌≡◌, ◌∙◌, ◌≤◌, ◌||◌, Bool, true, false, ℕ, List, [], ◌∷◌, Option, None, Some, ap, map, refl, sym, arith, codes, true≢false}
use Rattle.std.specs.Borrow.{Bor}
use Rattle.std.specs.List.{list_any}
use Rattle.std.specs.Prelude.{pos, slice_get}
use Rattle.std.specs.Str.{bytes_eq}
use Rattle.std.proofs.lemmas.Slice.Eq.{bytes_eq-Decides}
use Rattle.clap.specs.Words.{IsParsedFrom, Shape, Text, first_of, found_of, one_of, rows_of, shape_of}
use Rattle.clap.specs.Simple.{HasReadyLeaves, is_ready}
use Rattle.clap.specs.declared.builder.command.Command.{Command}
use Rattle.clap.specs.declared.builder.value_parser.ValueParser.TheVariants as parser
use Rattle.clap.specs.declared.parser.matches.ArgMatches.{ArgMatches}
use Rattle.clap.proofs.WalkLemmas.{first_value-rows, list_any-map, one_text-rows}
use Rattle.othello_rules.specs.Scores.{all_scorings, scoring_name}
use Rattle.othello_rules.specs.declared.scoring.Scoring.{Scoring}
use Rattle.program_settings.specs.Settings.{IsWithinLimits, SettingsView}
use Rattle.program_settings.specs.declared.limits.TheConstants.{MOST_EMPTIES, MOST_ENTRIES, MOST_WORKERS}
use Rattle.program_settings.specs.Limits.{default_empties, default_entries, default_workers}
use Rattle.program_parts.specs.CommandLine.{HasNumber, HasSettings, NameList, NamesScorings, number_rule, scoring_rule}
use Rattle.program_parts.proofs.DefaultLemmas.{default_read, is_only, is_own}
use Rattle.program_parts.proofs.NumberLemmas.{numeral_in}

-- the rules are those of a command that clap's definitions cover, and the options of the settings are the first
pub record HasSettingsRules (names : NameList) (s : Shape) : Type 0 where
  pub ready : is_ready s ≡ true
  pub max_empties : slice_get s.rules 0 ≡ Some (number_rule (codes "max-empties") MOST_EMPTIES default_empties)
  pub workers : slice_get s.rules 1 ≡ Some (number_rule (codes "workers") MOST_WORKERS default_workers)
  pub table : slice_get s.rules 2 ≡ Some (number_rule (codes "table") MOST_ENTRIES default_entries)
  pub scoring : slice_get s.rules 3 ≡ Some (scoring_rule names)
  pub one_max_empties : is_only 0 (codes "max-empties") s.rules ≡ true
  pub one_workers : is_only 1 (codes "workers") s.rules ≡ true
  pub one_table : is_only 2 (codes "table") s.rules ≡ true
  pub one_scoring : is_only 3 (codes "scoring") s.rules ≡ true

-- an option with a number has one in its range
number_within : (c : Command) (m : ArgMatches) (k : ℕ) (name : Text) (most default : ℕ) → IsParsedFrom c m
    → is_ready (shape_of c) ≡ true → HasReadyLeaves c → slice_get (shape_of c).rules k ≡ Some (number_rule name most default)
    → is_only k name (shape_of c).rules ≡ true → is_own name ≡ true
    → (n : ℕ) × (n ≤ most) × HasNumber name (rows_of (found_of m)) n
number_within c m k name most default p ready leaves at one own =
    let read = default_read c m k (number_rule name most default) (parser.Signed (pos 0) (pos most)) p ready leaves at one (record {
      action = refl;
      range = refl;
      defaults = omega arith;
      parser = refl;
      own = own;
    }) in
    let numeral = numeral_in most read.0 read.3 in (
      _,
      numeral.1,
      record {
        text = _;
        given = sym (one_text-rows (found_of m) name) ∙ read.2;
        numeral = numeral.0;
        value = refl;
      },
    )

-- a text among the names of scorings is the name of one
named_scoring : (all : List Scoring) (t : Text) → list_any (λ name. bytes_eq name t) (map scoring_name all) ≡ true
    → (g : Scoring) × (scoring_name g ≡ t)
named_scoring [] t h = absurd (true≢false (sym h))
named_scoring (g ∷ rest) t h = go (bytes_eq (scoring_name g) t) refl h (named_scoring rest t)
  where
    go : (b : Bool) → bytes_eq (scoring_name g) t ≡ b → (b || list_any (λ name. bytes_eq name t) (map scoring_name rest)) ≡ true
        → (list_any (λ name. bytes_eq name t) (map scoring_name rest) ≡ true → (g : Scoring) × (scoring_name g ≡ t))
        → (g : Scoring) × (scoring_name g ≡ t)
    go true same h later = (g, (bytes_eq-Decides (scoring_name g) t).0 same)
    go false other h later = later h

scoring_given : (c : Command) (m : ArgMatches) (names : NameList) → IsParsedFrom c m
    → is_ready (shape_of c) ≡ true → HasReadyLeaves c → NamesScorings names → slice_get (shape_of c).rules 3 ≡ Some (scoring_rule names)
    → is_only 3 (codes "scoring") (shape_of c).rules ≡ true
    → (g : Scoring) × (first_of (codes "scoring") (rows_of (found_of m)) ≡ Some (scoring_name g))
scoring_given c m names p ready leaves named at one =
    let read = default_read c m 3 (scoring_rule names) (parser.Names names) p ready leaves at one (record {
      action = refl;
      range = refl;
      defaults = omega arith;
      parser = refl;
      own = refl;
    }) in
    let among : list_any (λ name. bytes_eq name read.0) (map scoring_name all_scorings) ≡ true =
    ap (list_any (λ name. bytes_eq name read.0)) (sym named)
    ∙ sym (list_any-map (λ name. bytes_eq name read.0) (λ (name : Bor Text). name.now) names.now) ∙ read.3 in
    let g = named_scoring all_scorings read.0 among in
    (g.0, sym (first_value-rows (found_of m) (codes "scoring")) ∙ read.1 ∙ ap Some (sym g.1))

-- whether the value of a flag is `true`
abbrev is_set : Option Text → Bool
is_set None = false
is_set (Some text) = bytes_eq text (codes "true")

pub settings_given : (c : Command) (m : ArgMatches) (names : NameList) → IsParsedFrom c m → HasReadyLeaves c
    → NamesScorings names → HasSettingsRules names (shape_of c)
    → (s : SettingsView) × IsWithinLimits s × HasSettings s (rows_of (found_of m))
settings_given c m names p leaves named rules =
    let max_empties =
    number_within c m 0 (codes "max-empties") MOST_EMPTIES default_empties p rules.ready leaves rules.max_empties rules.one_max_empties refl in
    let workers = number_within c m 1 (codes "workers") MOST_WORKERS default_workers p rules.ready leaves rules.workers rules.one_workers refl in
    let table = number_within c m 2 (codes "table") MOST_ENTRIES default_entries p rules.ready leaves rules.table rules.one_table refl in
    let scoring = scoring_given c m names p rules.ready leaves named rules.scoring rules.one_scoring in
    let complete = is_set (one_of (codes "complete") (rows_of (found_of m))) in (
      record { max_empties = max_empties.0; workers = workers.0; table = table.0; scoring = scoring.0; complete = complete },
      record { few_empties = max_empties.1; few_workers = workers.1; few_entries = table.1 },
      record {
        max_empties = max_empties.2;
        workers = workers.2;
        table = table.2;
        scoring = scoring.1;
        complete = record { set = λ e. ap is_set e; unset = λ e. ap is_set e };
      },
    )
