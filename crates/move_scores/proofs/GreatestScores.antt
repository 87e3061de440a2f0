-- The greatest of the scores is the value, and the moves that have it are the best.
use Rattle.std.proofs.Common.{◌≡◌, ◌≢◌, ℕ, neg_ℤ, ◌<◌, ◌≤ℤ◌, true, [], ◌∷◌, map, refl, sym, ap, ◌∙◌}
use Rattle.std.proofs.Common.{subst, inl, inr, arith}
use Rattle.std.specs.List.{Contains}
use Rattle.std.proofs.lemmas.Int.{ints}
use Rattle.std.proofs.lemmas.Bool.{both_ways, cases_eq}
use Rattle.othello_bits.proofs.Bits.{none_from_zero}
use Rattle.std.proofs.lemmas.List.Sorted.{Contains-permutation, IsPermutation-sym}
use Rattle.othello_rules.specs.declared.discs.Side.TheVariants.{Black}
use Rattle.othello_rules.specs.declared.scoring.Scoring.{Scoring}
use Rattle.othello_rules.specs.Board.{squares}
use Rattle.othello_rules.specs.Masks.{in_mask, squares_of}
use Rattle.othello_rules.specs.Rules.{GridView, moves}
use Rattle.othello_rules.specs.Value.{can_move, greatest}
use Rattle.othello_rules.proofs.BoundLaws.{Contains-from_map, Contains-map}
use Rattle.othello_rules.proofs.ListLaws.{Contains-filter, Contains-nil, passes_in_filter}
use Rattle.othello_rules.proofs.MoveLaws.{Contains-squares}
use Rattle.othello_bits.specs.Pos.{PosView, moves_of, pass_of, play_of, position_of, value_of}
use Rattle.othello_bits.specs.Pos.{IsMove}
use Rattle.othello_bits.proofs.GameLaws.{can_go, value_above, value_reached}
use Rattle.othello_bits.proofs.MaskMeaning.{IsMove-on_board}
use Rattle.obf_text.specs.Fields.{Field, greatest_listed}
use Rattle.obf_text.specs.declared.entries.ListedMove.TheVariants.{At, Pass, Over}
use Rattle.obf_text.proofs.GreatestLemmas.{greatest_listed_reached, le-greatest_listed}
use Rattle.move_scores.specs.Scores.{move_scores, score_fields, score_fields_of, scored}
use Rattle.move_scores.proofs.EitherSide.{of_move}
use Rattle.move_scores.proofs.Orders.{scores_permute}
use Rattle.move_scores.proofs.ScoreLaws.{of_over, of_pass, scored_is, scored_of, squares_are}

one_greatest : (f : Field) → greatest_listed (f ∷ []) ≡ f.1
unfolding greatest
one_greatest f = refl

pub listed_is_move : (m q : ℕ) → Contains (squares_of m) q → in_mask m q ≡ true
unfolding squares_of
listed_is_move m q h = passes_in_filter (in_mask m) squares q h

square_listed : (m q : ℕ) → q < 64 → in_mask m q ≡ true → Contains (squares_of m) q
unfolding squares_of
square_listed m q h b = Contains-filter (in_mask m) squares q (Contains-squares q h) b

-- each move is among the fields with what it is worth, and each field is a move with what it is
-- worth
module _ (g : Scoring) (P : GridView) (can : can_move P ≡ true) where
  pub has_move : (q : ℕ) → Contains (moves P) q → Contains (score_fields g P) (scored g P q)
  has_move q m =
      subst (λ l. Contains l (scored g P q)) (sym (of_move g P can))
      (Contains-permutation (map (scored g P) (moves P)) (move_scores g P) (scored g P q)
      (scores_permute g P) (Contains-map (scored g P) (moves P) q m))

  pub is_move_in : (f : Field) → Contains (score_fields g P) f
      → (q : ℕ) × Contains (moves P) q × (scored g P q ≡ f)
  is_move_in f h =
      Contains-from_map (scored g P) (moves P) f
      (Contains-permutation (move_scores g P) (map (scored g P) (moves P)) f
      (IsPermutation-sym (map (scored g P) (moves P)) (move_scores g P) (scores_permute g P))
      (subst (λ l. Contains l f) (of_move g P can) h))

-- the same over masks
module _ (g : Scoring) (p : PosView) (some : moves_of p ≢ 0) where
  has_move_of : (q : ℕ) → IsMove p q → Contains (score_fields_of g p) (scored_of g p q)
  unfolding score_fields_of
  has_move_of q m =
      subst (Contains (score_fields g (position_of Black p))) (sym (scored_is g p q))
      (has_move g (position_of Black p) (can_go p some) q
      (subst (λ l. Contains l q) (squares_are p)
      (square_listed (moves_of p) q (IsMove-on_board p q m) m)))

  is_move_of : (f : Field) → Contains (score_fields_of g p) f
      → (q : ℕ) × Contains (squares_of (moves_of p)) q × (scored_of g p q ≡ f)
  unfolding score_fields_of
  is_move_of f h =
      let from = is_move_in g (position_of Black p) (can_go p some) f h in (
        from.0,
        subst (λ l. Contains l from.0) (sym (squares_are p)) from.1,
        scored_is g p from.0 ∙ from.2,
      )

  greatest_of_moves : greatest_listed (score_fields_of g p) ≡ value_of g p
  greatest_of_moves =
      let best = value_reached g p some in
      let inside = has_move_of best.0 best.1 in
      let high : value_of g p ≤ℤ greatest_listed (score_fields_of g p) =
      subst (λ z. z ≤ℤ greatest_listed (score_fields_of g p)) best.2
      (le-greatest_listed (score_fields_of g p) (scored_of g p best.0) inside) in
      let top =
      greatest_listed_reached (score_fields_of g p)
      (λ none. Contains-nil (scored_of g p best.0)
      (subst (λ l. Contains l (scored_of g p best.0)) none inside)) in
      let from = is_move_of top.0 top.1 in
      let low : greatest_listed (score_fields_of g p) ≤ℤ value_of g p =
      subst (λ z. z ≤ℤ value_of g p) (ap (λ f. f.1) from.2 ∙ top.2)
      (value_above g p from.0 (listed_is_move (moves_of p) from.0 from.1)) in
      omega (arith, ints)

pub greatest_value : (g : Scoring) (p : PosView)
    → greatest_listed (score_fields_of g p) ≡ value_of g p
greatest_value g p =
    elim (cases_eq (moves_of p) 0) [
      | inr some ↦ greatest_of_moves g p some
      | inl none ↦
          elim (cases_eq (moves_of (pass_of p)) 0) [
            | inr reply ↦
                ap greatest_listed (of_pass g p none reply) ∙ one_greatest (Pass, value_of g p)
            | inl over ↦
                ap greatest_listed (of_over g p none over) ∙ one_greatest (Over, value_of g p)
          ]
    ]

-- a move has the value exactly where it is best
pub best_listed : (g : Scoring) (p : PosView) (q : ℕ) → IsMove p q
    → neg_ℤ (value_of g (play_of p q)) ≡ value_of g p
    → Contains (score_fields_of g p) (At q, value_of g p)
best_listed g p q m e =
    elim (cases_eq (moves_of p) 0) [
      | inr some ↦ subst (λ z. Contains (score_fields_of g p) (At q, z)) e (has_move_of g p some q m)
      | inl none ↦
          absurd (both_ways (in_mask (moves_of p) q) (none_from_zero (moves_of p) none q) m)
    ]

pub best_only : (g : Scoring) (p : PosView) (q : ℕ) → moves_of p ≢ 0
    → Contains (score_fields_of g p) (At q, value_of g p)
    → IsMove p q × (neg_ℤ (value_of g (play_of p q)) ≡ value_of g p)
best_only g p q some h =
    let from = is_move_of g p some (At q, value_of g p) h in
    let square : from.0 ≡ q = let e = ap (λ f. f.0) from.2 in cc in
    let move : IsMove p q = subst (IsMove p) square (listed_is_move (moves_of p) from.0 from.1) in (
      move,
      subst (λ r. neg_ℤ (value_of g (play_of p r)) ≡ value_of g p) square
          (ap (λ f. f.1) from.2),
    )
