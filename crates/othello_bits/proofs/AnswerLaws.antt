-- The answer over two masks: the value, and the mask of the moves that attain it.
use Rattle.std.proofs.Common.{◌≡◌, ℕ, ◌<◌, Bool, cond, ◌&&◌, eqb, List, [], ◌∷◌, refl, ap, sym, ◌∙◌, inl, inr, neg_ℤ}
use Rattle.std.specs.List.{filter}
use Rattle.std.specs.Ordering.{int_eq}
use Rattle.std.proofs.lemmas.Bool.{cases_Bool, cases_eq, eq-eqb, ne_eqb, cond-true, cond-false}
use Rattle.othello_rules.specs.declared.discs.Side.TheVariants.{Black}
use Rattle.othello_rules.specs.declared.answer.Best.TheVariants.{Moves, Pass, Over}
use Rattle.othello_rules.specs.Board.{squares}
use Rattle.othello_rules.specs.declared.scoring.Scoring.{Scoring}
use Rattle.othello_rules.specs.Rules as rules
use Rattle.othello_rules.specs.Rules.{GridView}
use Rattle.othello_rules.specs.Value as worth
use Rattle.othello_rules.proofs.MaskLaws.{best_is_moves, best_is_pass, best_is_over}
use Rattle.othello_rules.specs.Masks.{mask_of}
use Rattle.othello_bits.specs.Pos.{mask_where, PosView, position_of, moves_of, pass_of, value_of, answer_of, is_best_move, best_answer}
use Rattle.othello_bits.proofs.TestMasks.{in_mask-where, where_same}
use Rattle.othello_bits.proofs.GameLaws.{cannot_move, cannot_reply, can_reply, can_go, value_play}

pub filter-filter : (p r : ℕ → Bool) (xs : List ℕ) → filter p (filter r xs) ≡ filter (λ q. r q && p q) xs
filter-filter p r [] = refl
filter-filter p r (x ∷ xs) =
    elim (cases_Bool (r x)) [
      | inl b ↦ elim (cases_Bool (p x)) [ inl d ↦ rw (b, d, filter-filter p r xs) refl | inr d ↦ rw (b, d, filter-filter p r xs) refl ]
      | inr b ↦ rw (b, filter-filter p r xs) refl
    ]

is_best-is : (g : Scoring) (p : PosView) (q : ℕ) → q < 64
    → (rules.is_move (position_of Black p) q && worth.is_best g (position_of Black p) q) ≡ is_best_move g p q
unfolding moves_of rules.moves value_of
is_best-is g p q h = λ k. sym (in_mask-where (rules.is_move (position_of Black p)) q h) k && int_eq (neg_ℤ (sym (value_play g p q) k)) (value_of g p)

best_mask : (g : Scoring) (p : PosView) → mask_of (worth.best_moves g (position_of Black p)) ≡ mask_where (is_best_move g p)
unfolding worth.best_moves rules.moves
best_mask g p =
    let P : GridView = position_of Black p in
    ap mask_of (filter-filter (worth.is_best g P) (rules.is_move P) squares)
    ∙ where_same (λ q. rules.is_move P q && worth.is_best g P q) (is_best_move g p) (is_best-is g p)

best-is : (g : Scoring) (p : PosView) → worth.best g (position_of Black p) ≡ best_answer g p
unfolding best_answer
best-is g p =
    let P : GridView = position_of Black p in
    elim (cases_eq (moves_of p) 0) [
      | inr some ↦
          best_is_moves g P (can_go p some) ∙ ap Moves (best_mask g p)
          ∙ sym (cond-false (eqb (moves_of p) 0) (cond (eqb (moves_of (pass_of p)) 0) Over Pass)
          (Moves (mask_where (is_best_move g p))) (ne_eqb (moves_of p) 0 some))
      | inl none ↦
          elim (cases_eq (moves_of (pass_of p)) 0) [
            | inr reply ↦
                best_is_pass g P (cannot_move p none) (can_reply p reply)
                ∙ sym (cond-true (eqb (moves_of p) 0) (cond (eqb (moves_of (pass_of p)) 0) Over Pass)
                (Moves (mask_where (is_best_move g p))) (eq-eqb (moves_of p) 0 none)
                ∙ cond-false (eqb (moves_of (pass_of p)) 0) Over Pass (ne_eqb (moves_of (pass_of p)) 0 reply))
            | inl over ↦
                best_is_over g P (cannot_move p none) (cannot_reply p over)
                ∙ sym (cond-true (eqb (moves_of p) 0) (cond (eqb (moves_of (pass_of p)) 0) Over Pass)
                (Moves (mask_where (is_best_move g p))) (eq-eqb (moves_of p) 0 none)
                ∙ cond-true (eqb (moves_of (pass_of p)) 0) Over Pass (eq-eqb (moves_of (pass_of p)) 0 over))
          ]
    ]

pub answer-is : (g : Scoring) (p : PosView) → answer_of g p ≡ record { score = value_of g p; best = best_answer g p }
unfolding answer_of worth.answer value_of
answer-is g p = λ k. record { score = worth.value g (position_of Black p); best = best-is g p k }
