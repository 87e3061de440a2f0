-- The text of a position that was made two masks, and whether its line is right.
use Rattle.std.proofs.Common.{◌≡◌, ◌≤◌, ◌<◌, ℕ, List, length, true, false}
use Rattle.std.proofs.Common.{refl, sym, ap, ◌∙◌, arith, inl, inr}
use Rattle.std.specs.Prelude.{nat_lt, not}
use Rattle.std.proofs.lemmas.Bool.{cases_lt, false_from_ne_true, lt-ltb, ltb-true}
use Rattle.othello_rules.specs.declared.scoring.Scoring.{Scoring}
use Rattle.othello_rules.specs.Rules.{GridView}
use Rattle.othello_rules.specs.Value.{empties}
use Rattle.othello_bits.specs.Pos.{PosView, discs_of, empties_of, position_of}
use Rattle.othello_bits.proofs.CellLaws.{length-cells_of}
use Rattle.othello_bits.proofs.GameLaws.{empties-discs_of}
use Rattle.obf_text.specs.Fields.{Field}
use Rattle.obf_text.specs.Obf.{Entry, Holds}
use Rattle.obf_text.specs.Pieces.{line_pieces}
use Rattle.scored_lines.specs.Remarks.{has_remarks, line_remarks}
use Rattle.program_settings.specs.declared.criteria.Criteria.{Criteria}
use Rattle.obf_text.specs.Faults.{too_many_text}
use Rattle.scored_lines.specs.Lines.{is_right, out_text, refused_text, scored_text}
use Rattle.move_scores.specs.Scores.{score_fields, score_fields_of}
use Rattle.move_scores.proofs.EitherSide.{score_fields-discs_of}

pub whole_from : (P : GridView) (p : PosView) → position_of P.mover p ≡ P → length P.cells ≡ 64
whole_from P p meaning =
    ap (λ (Q : GridView). length Q.cells) (sym meaning) ∙ length-cells_of P.mover p

module _ (g : Scoring) (by : Criteria) (line : List ℕ) (entry : Entry) (p : PosView)
    (whole : length entry.position.cells ≡ 64) (e : p ≡ discs_of entry.position) where
  count : empties_of p ≡ empties entry.position
  count = ap empties_of e ∙ empties-discs_of entry.position whole

  within : empties_of p ≤ by.limit → nat_lt by.limit (empties entry.position) ≡ false
  within few =
      let c = count in
      false_from_ne_true (nat_lt by.limit (empties entry.position))
      (λ t.
      let more : by.limit < empties entry.position = ltb-true by.limit (empties entry.position) t in
      omega (arith, c))

  beyond : (empties_of p ≤ by.limit → ⊥) → nat_lt by.limit (empties entry.position) ≡ true
  beyond many =
      elim (cases_lt by.limit (empties_of p)) [
        | inl l ↦
            (let c = count in
            let above : by.limit < empties entry.position = omega (arith, c) in
            lt-ltb by.limit (empties entry.position) above)
        | inr h ↦ absurd (many h)
      ]

  exact : (scores : List Field) → scores ≡ score_fields_of g p
      → scores ≡ score_fields g entry.position
  exact scores s = s ∙ ap (score_fields_of g) e ∙ score_fields-discs_of g entry.position whole

  pub out_scored : (scores : List Field) → empties_of p ≤ by.limit → scores ≡ score_fields_of g p
      → scored_text by.complete entry scores line ≡ out_text g by line (Holds entry)
  unfolding out_text
  out_scored scores few s = rw (within few, exact scores s) refl

  pub right_scored : (scores : List Field) → empties_of p ≤ by.limit → scores ≡ score_fields_of g p
      → not (has_remarks (line_remarks by.complete scores entry.listed (line_pieces line))) ≡ is_right g by line (Holds entry)
  unfolding is_right
  right_scored scores few s = rw (within few, exact scores s) refl

  pub out_many : (found : ℕ) → (empties_of p ≤ by.limit → ⊥) → found ≡ empties_of p
      → refused_text (too_many_text found by.limit) line ≡ out_text g by line (Holds entry)
  unfolding out_text
  out_many found many f =
      let all : found ≡ empties entry.position = f ∙ count in
      rw (beyond many, all) refl

  pub right_many : (empties_of p ≤ by.limit → ⊥) → false ≡ is_right g by line (Holds entry)
  unfolding is_right
  right_many many = rw (beyond many) refl
