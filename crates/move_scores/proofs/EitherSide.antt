-- The scores of a position are those of its masks, whichever side is to move.
use Rattle.std.proofs.Common.{◌≡◌, ℕ, length, true, false, refl, inl, inr, neg_ℤ, sym, ap, ◌∙◌}
use Rattle.std.specs.Prelude.{[], ◌∷◌}
use Rattle.std.proofs.lemmas.Bool.{cases_Bool}
use Rattle.othello_rules.specs.declared.scoring.Scoring.{Scoring}
use Rattle.othello_rules.specs.Rules.{GridView, pass, play}
use Rattle.othello_rules.specs.Value.{can_move, value}
use Rattle.othello_rules.specs.Colours.{colour_swap}
use Rattle.othello_rules.proofs.ColourLaws.{can_move-swapped, moves-swapped, play-swapped}
use Rattle.othello_rules.proofs.ColourLaws.{value-swapped}
use Rattle.othello_bits.specs.Pos.{discs_of}
use Rattle.othello_bits.proofs.ColourMeaning.{as_black}
use Rattle.othello_bits.proofs.PlayMeaning.{position_of-discs_of}
use Rattle.obf_text.specs.declared.entries.ListedMove.TheVariants.{At, Pass, Over}
use Rattle.move_scores.specs.Scores.{move_scores, score_fields, score_fields_of, scored}
use Rattle.move_scores.proofs.PutIn.{put_all}

move_scores-swapped : (g : Scoring) (P : GridView) → move_scores g (colour_swap P) ≡ move_scores g P
unfolding move_scores
move_scores-swapped g P =
    let each : (q : ℕ) → scored g (colour_swap P) q ≡ scored g P q =
    λ q. ap (λ z. (At q, neg_ℤ z))
    (ap (value g) (play-swapped P q) ∙ value-swapped g (play P q)) in
    λ k. put_all (λ q. each q k) (moves-swapped P k)

pub of_move : (g : Scoring) (P : GridView) → can_move P ≡ true → score_fields g P ≡ move_scores g P
unfolding score_fields
of_move g P h = rw h refl

pub of_pass : (g : Scoring) (P : GridView) → can_move P ≡ false → can_move (pass P) ≡ true
    → score_fields g P ≡ (Pass, value g P) ∷ []
unfolding score_fields
of_pass g P h k = rw (h, k) refl

pub of_over : (g : Scoring) (P : GridView) → can_move P ≡ false → can_move (pass P) ≡ false
    → score_fields g P ≡ (Over, value g P) ∷ []
unfolding score_fields
of_over g P h k = rw (h, k) refl

score_fields-swapped : (g : Scoring) (P : GridView)
    → score_fields g (colour_swap P) ≡ score_fields g P
score_fields-swapped g P =
    elim (cases_Bool (can_move P)) [
      | inl h ↦
          of_move g (colour_swap P) (can_move-swapped P ∙ h) ∙ move_scores-swapped g P
          ∙ sym (of_move g P h)
      | inr h ↦
          elim (cases_Bool (can_move (pass P))) [
            | inl k ↦
                of_pass g (colour_swap P) (can_move-swapped P ∙ h) (can_move-swapped (pass P) ∙ k)
                ∙ ap (λ z. (Pass, z) ∷ []) (value-swapped g P) ∙ sym (of_pass g P h k)
            | inr k ↦
                of_over g (colour_swap P) (can_move-swapped P ∙ h) (can_move-swapped (pass P) ∙ k)
                ∙ ap (λ z. (Over, z) ∷ []) (value-swapped g P) ∙ sym (of_over g P h k)
          ]
    ]

-- the masks of a position of 64 cells keep its scores
pub score_fields-discs_of : (g : Scoring) (P : GridView) → length P.cells ≡ 64
    → score_fields_of g (discs_of P) ≡ score_fields g P
unfolding score_fields_of
score_fields-discs_of g P whole =
    sym (as_black (score_fields g) (score_fields-swapped g) P.mover (discs_of P))
    ∙ ap (score_fields g) (position_of-discs_of P whole)
