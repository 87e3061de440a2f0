-- Swapping all discs and the side to move keeps the answer.
use Rattle.std.proofs.Common.{◌≡◌, ℕ, sym, ap, ◌∙◌, inl, inr, neg_ℤ}
use Rattle.std.specs.List.{filter}
use Rattle.std.specs.Ordering.{int_eq}
use Rattle.std.proofs.lemmas.Bool.{cases_Bool}
use Rattle.othello_rules.specs.declared.scoring.Scoring.{Scoring}
use Rattle.othello_rules.specs.declared.answer.Best.TheVariants.{Moves}
use Rattle.othello_rules.specs.Rules.{GridView, pass, play}
use Rattle.othello_rules.specs.Masks.{mask_of}
use Rattle.othello_rules.specs.Value.{can_move, value, is_best, best_moves, best, answer}
use Rattle.othello_rules.specs.Colours.{colour_swap}
use Rattle.othello_rules.proofs.MaskLaws.{best_is_moves, best_is_pass, best_is_over}
use Rattle.othello_rules.proofs.ColourLaws.{moves-swapped, play-swapped, can_move-swapped, value-swapped}

is_best-swapped : (g : Scoring) (P : GridView) (q : ℕ) → is_best g (colour_swap P) q ≡ is_best g P q
is_best-swapped g P q =
    let after : value g (play (colour_swap P) q) ≡ value g (play P q) = ap (value g) (play-swapped P q) ∙ value-swapped g (play P q) in
    λ k. int_eq (neg_ℤ (after k)) (value-swapped g P k)

pub best_moves-swapped : (g : Scoring) (P : GridView) → best_moves g (colour_swap P) ≡ best_moves g P
unfolding best_moves
best_moves-swapped g P =
    let each : is_best g (colour_swap P) ≡ is_best g P = λ k q. is_best-swapped g P q k in
    λ k. filter (each k) (moves-swapped P k)

best-swapped : (g : Scoring) (P : GridView) → best g (colour_swap P) ≡ best g P
best-swapped g P =
    elim (cases_Bool (can_move P)) [
      | inl h ↦
          best_is_moves g (colour_swap P) (can_move-swapped P ∙ h)
          ∙ ap (λ qs. Moves (mask_of qs)) (best_moves-swapped g P)
          ∙ sym (best_is_moves g P h)
      | inr h ↦
          elim (cases_Bool (can_move (pass P))) [
            | inl k ↦
                best_is_pass g (colour_swap P) (can_move-swapped P ∙ h) (can_move-swapped (pass P) ∙ k) ∙ sym (best_is_pass g P h k)
            | inr k ↦
                best_is_over g (colour_swap P) (can_move-swapped P ∙ h) (can_move-swapped (pass P) ∙ k) ∙ sym (best_is_over g P h k)
          ]
    ]

pub answer-swapped : (g : Scoring) (P : GridView) → answer g (colour_swap P) ≡ answer g P
unfolding answer
answer-swapped g P = λ k. record { score = value-swapped g P k; best = best-swapped g P k }
