-- What a position's moves are worth, over two masks and by the rules.
use Rattle.std.proofs.Common.{◌≡◌, ◌≢◌, ℕ, ℤ, neg_ℤ, List, [], ◌∷◌, All, refl, sym, subst, inl, inr}
use Rattle.std.proofs.Common.{arith}
use Rattle.std.proofs.lemmas.Int.{ints}
use Rattle.std.proofs.lemmas.Bool.{cases_eq}
use Rattle.std.proofs.lemmas.List.Elements.{All-cons, All-nil}
use Rattle.othello_rules.specs.declared.discs.Side.TheVariants.{Black}
use Rattle.othello_rules.specs.declared.scoring.Scoring.{Scoring}
use Rattle.othello_rules.specs.Masks.{squares_of}
use Rattle.othello_rules.specs.Rules as rules
use Rattle.othello_rules.specs.Answer.{IsScore}
use Rattle.othello_bits.specs.Pos.{PosView, position_of, moves_of, pass_of, play_of, value_of}
use Rattle.othello_bits.specs.Pos.{HasNoMove}
use Rattle.othello_bits.proofs.GameLaws.{can_go, can_reply, cannot_move, cannot_reply, value_play}
use Rattle.othello_bits.proofs.GameLaws.{value_score}
use Rattle.othello_bits.proofs.TestMasks.{filter_again}
use Rattle.obf_text.specs.Fields.{Field}
use Rattle.obf_text.specs.declared.entries.ListedMove.TheVariants.{At, Pass, Over}
use Rattle.move_scores.specs.Scores.{move_scores, score_fields, score_fields_of, scored}
use Rattle.move_scores.proofs.EitherSide.{of_move}
use Rattle.move_scores.proofs.Orders.{each_score}
use Rattle.move_scores.proofs.PutIn.{put_all}

pub squares_are : (p : PosView) → squares_of (moves_of p) ≡ rules.moves (position_of Black p)
unfolding squares_of moves_of rules.moves
squares_are p = filter_again (rules.is_move (position_of Black p))

-- a move with what it is worth, over masks
abbrev pub scored_of : Scoring → PosView → ℕ → Field
scored_of g p q = (At q, neg_ℤ (value_of g (play_of p q)))

pub scored_is : (g : Scoring) (p : PosView) (q : ℕ) → scored_of g p q ≡ scored g (position_of Black p) q
scored_is g p q = λ k. (At q, neg_ℤ (value_play g p q k))

pub of_moves : (g : Scoring) (p : PosView) → moves_of p ≢ 0
    → score_fields_of g p ≡ put_all (scored_of g p) (squares_of (moves_of p))
unfolding score_fields_of score_fields move_scores
of_moves g p some =
    rw (can_go p some) (λ k. put_all (λ q. sym (scored_is g p q) k) (sym (squares_are p) k))

pub of_pass : (g : Scoring) (p : PosView) → HasNoMove p → (HasNoMove (pass_of p) → ⊥)
    → score_fields_of g p ≡ (Pass, value_of g p) ∷ []
unfolding score_fields_of score_fields value_of
of_pass g p none reply = rw (cannot_move p none, can_reply p reply) refl

pub of_over : (g : Scoring) (p : PosView) → HasNoMove p → HasNoMove (pass_of p)
    → score_fields_of g p ≡ (Over, value_of g p) ∷ []
unfolding score_fields_of score_fields value_of
of_over g p none over = rw (cannot_move p none, cannot_reply p over) refl

pub negated : (z : ℤ) → IsScore z → IsScore (neg_ℤ z)
negated z h = let l = h.low in let m = h.high in
    record { low = omega (arith, ints); high = omega (arith, ints) }

abbrev pub AreInRange : List Field → Type 0
AreInRange fields = All (λ f. IsScore f.1) fields

pub in_range : (g : Scoring) (p : PosView) → AreInRange (score_fields_of g p)
unfolding score_fields_of
in_range g p =
    elim (cases_eq (moves_of p) 0) [
      | inr some ↦
          subst AreInRange (sym (of_move g (position_of Black p) (can_go p some)))
          (each_score (λ f. IsScore f.1) g (position_of Black p)
          (λ q h.
          subst (λ f. IsScore f.1) (scored_is g p q)
          (negated (value_of g (play_of p q)) (value_score g (play_of p q)))))
      | inl none ↦
          elim (cases_eq (moves_of (pass_of p)) 0) [
            | inr reply ↦
                subst AreInRange (sym (of_pass g p none reply))
                (All-cons (λ (f : Field). IsScore f.1) (Pass, value_of g p) [] (value_score g p)
                (All-nil (λ (f : Field). IsScore f.1)))
            | inl over ↦
                subst AreInRange (sym (of_over g p none over))
                (All-cons (λ (f : Field). IsScore f.1) (Over, value_of g p) [] (value_score g p)
                (All-nil (λ (f : Field). IsScore f.1)))
          ]
    ]
