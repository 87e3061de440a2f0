use Rattle.std.proofs.Common.{◌≡◌, ◌∙◌, ◌≤◌, [], Option, None, Some, ap, arith, codes, is_some, option_map, subst, sym, true≢false}
use Rattle.std.specs.Prelude.{unwrap_or}
use Rattle.clap.specs.Words.{Text, first_of, found_of, rows_of}
use Rattle.clap.proofs.WalkLemmas.{first_value-rows, one_text-rows}
use Rattle.othello_rules.specs.Scores.{scoring_name}
use Rattle.program_parts.specs.CommandLine.{HasSettings}
use Rattle.program_settings.specs.Settings.{SettingsView}
use Rattle.program_settings.specs.declared.limits.TheConstants.{MOST_EMPTIES, MOST_WORKERS}
use Rattle.program_parts.proofs.settings_args.settings_of.Goals as goal

pub returns-clause-value : goal.returns-clause-value
returns-clause-value c =
    let found = found_of c.args.matches.now in
    let got : c.get_str.result ≡ Some c.in_ok-get_str.field-0 = c.in_ok-get_str.was in
    let named = sym c.as_bytes.ensures.value ∙ c.in_ok-scoring.ensures.named in
    let scoring : first_of (codes "scoring") (rows_of found) ≡ Some (scoring_name c.in_ok-scoring.scoring) =
    sym (first_value-rows found (codes "scoring")) ∙ sym c.get_str.ensures ∙ ap (option_map (λ s. s.now)) got ∙ ap Some named in
    let made = c.with_complete.ensures ∙ ap (λ (s : SettingsView). record s { complete = c.get_flag.result }) c.in_ok-settings.ensures.value in
    subst (λ (s : SettingsView). HasSettings s (rows_of found)) (sym made) (record {
      max_empties = c.in_ok-max_empties.ensures.value;
      workers = c.in_ok-workers.ensures.value;
      table = c.in_ok-table.ensures.value;
      scoring = scoring;
      complete = record {
        set = λ e. c.get_flag.ensures.value (one_text-rows found (codes "complete") ∙ e);
        unset = λ e. c.get_flag.ensures.other (one_text-rows found (codes "complete") ∙ e);
      };
    })

not_both : {T : Type 0} (o : Option T) (x : T) → o ≡ Some x → o ≡ None → ⊥
not_both o x some none = true≢false (sym (ap is_some some) ∙ ap is_some none)

pub returns-in_err-max_empties-clause-found : goal.returns-in_err-max_empties-clause-found
returns-in_err-max_empties-clause-found c = λ s within h.
    let few : s.max_empties ≤ MOST_EMPTIES = within.few_empties in
    absurd (not_both c.u8_of.result _ (c.u8_of.ensures.found s.max_empties (omega (arith, few)) h.max_empties) c.in_err-max_empties.was)

pub returns-in_err-workers-clause-found : goal.returns-in_err-workers-clause-found
returns-in_err-workers-clause-found c = λ s within h.
    let few : s.workers ≤ MOST_WORKERS = within.few_workers in
    absurd (not_both c.u8_of-2.result _ (c.u8_of-2.ensures.found s.workers (omega (arith, few)) h.workers) c.in_err-workers.was)

pub returns-in_err-get_str-clause-found : goal.returns-in_err-get_str-clause-found
returns-in_err-get_str-clause-found c = λ s within h.
    let found = found_of c.args.matches.now in
    absurd (not_both (option_map (λ s. s.now) c.get_str.result) _ (c.get_str.ensures ∙ first_value-rows found (codes "scoring") ∙ h.scoring)
    (ap (option_map (λ s. s.now)) c.in_err-get_str.was))

pub returns-in_err-scoring-clause-found : goal.returns-in_err-scoring-clause-found
returns-in_err-scoring-clause-found c = λ s within h.
    let found = found_of c.args.matches.now in
    let got : c.get_str.result ≡ Some c.in_ok-get_str.field-0 = c.in_ok-get_str.was in
    let text = sym (ap (option_map (λ s. s.now)) got) ∙ c.get_str.ensures ∙ first_value-rows found (codes "scoring") ∙ h.scoring in
    let same = ap (λ (o : Option Text). unwrap_or o []) text in
    absurd (not_both c.from_name.result _ (c.from_name.ensures.all s.scoring (c.as_bytes.ensures.value ∙ same)) c.in_err-scoring.was)
