-- The task and the result of a position that was turned into two masks.
use Rattle.std.proofs.Common.{◌≡◌, ◌≤◌, ◌<◌, ℕ, length, true, false, refl, ap, ◌∙◌, arith, inl, inr}
use Rattle.std.specs.Prelude.{nat_lt, Some, None}
use Rattle.std.proofs.lemmas.Bool.{cases_lt, false_from_ne_true, lt-ltb, ltb-true}
use Rattle.othello_rules.specs.declared.scoring.Scoring.{Scoring}
use Rattle.othello_rules.specs.Rules.{GridView}
use Rattle.othello_rules.specs.Answer.{AnswerView}
use Rattle.othello_rules.specs.Value.{answer, empties}
use Rattle.othello_bits.specs.Pos.{PosView, discs_of, empties_of, answer_of}
use Rattle.othello_bits.proofs.GameLaws.{answer-discs_of, empties-discs_of}
use Rattle.obf_text.specs.Obf.{Entry, Holds}
use Rattle.suite_reports.specs.Check.{check_by}
use Rattle.program_settings.specs.declared.criteria.Criteria.{Criteria}
use Rattle.endgame_search.specs.Task.{TaskView}
use Rattle.suite_reports.specs.Rows.{entry_result, task_of}
use Rattle.suite_reports.specs.declared.report_row.Refusal.TheVariants.{Empties}
use Rattle.suite_reports.specs.declared.report_row.RowResult.TheVariants.{Solved, Refused}

empties_are : (P : GridView) (p : PosView) → length P.cells ≡ 64 → p ≡ discs_of P → empties_of p ≡ empties P
empties_are P p whole e = ap empties_of e ∙ empties-discs_of P whole

module _ (g : Scoring) (by : Criteria) (entry : Entry) (p : PosView) (whole : length entry.position.cells ≡ 64) (e : p ≡ discs_of entry.position) where
  count : empties_of p ≡ empties entry.position
  count = empties_are entry.position p whole e

  within : empties_of p ≤ by.limit → nat_lt by.limit (empties entry.position) ≡ false
  within few =
      let c = count in
      false_from_ne_true (nat_lt by.limit (empties entry.position))
      (λ t. let more : by.limit < empties entry.position = ltb-true by.limit (empties entry.position) t in omega (arith, c))

  beyond : (empties_of p ≤ by.limit → ⊥) → nat_lt by.limit (empties entry.position) ≡ true
  beyond many =
      elim (cases_lt by.limit (empties_of p)) [
        | inl l ↦ (let c = count in let above : by.limit < empties entry.position = omega (arith, c) in lt-ltb by.limit (empties entry.position) above)
        | inr h ↦ absurd (many h)
      ]

  -- a position within the limit of empty squares is a task, and solved in its row
  pub solved_entry : (A : AnswerView) → empties_of p ≤ by.limit → A ≡ answer_of g p → Solved A (check_by by.complete entry.listed A) ≡ entry_result g by entry
  solved_entry A few a =
      let exact : A ≡ answer g entry.position = a ∙ ap (answer_of g) e ∙ answer-discs_of g entry.position whole in
      rw (within few, exact) refl

  pub entry_task : (t : TaskView) → empties_of p ≤ by.limit → t ≡ record { position = p; scoring = g } → Some t ≡ task_of g by.limit (Holds entry)
  entry_task t few is =
      let same : t ≡ record { position = discs_of entry.position; scoring = g } =
      is ∙ ap (λ d. let r : TaskView = record { position = d; scoring = g } in r) e in
      rw (within few, same) refl

  -- with too many it is refused
  pub refused_entry : (found : ℕ) → (empties_of p ≤ by.limit → ⊥) → found ≡ empties_of p → Refused (Empties found by.limit) ≡ entry_result g by entry
  refused_entry found many f =
      let all : found ≡ empties entry.position = f ∙ count in
      rw (beyond many, all) refl

  pub entry_none : (empties_of p ≤ by.limit → ⊥) → None ≡ task_of g by.limit (Holds entry)
  entry_none many = rw (beyond many) refl
