-- The laws of the value over two masks: all that a search needs.
use Rattle.std.proofs.Common.{◌≡◌, ℕ, ◌+◌, ◌-◌, ◌<◌, ◌≤◌, true, false, length, ap, sym, subst, ◌∙◌, arith, inl, inr, neg_ℤ, ◌≤ℤ◌}
use Rattle.std.specs.List.{Contains}
use Rattle.std.proofs.lemmas.Bool.{cases_Bool}
use Rattle.othello_rules.specs.declared.discs.Side.TheVariants.{Black}
use Rattle.othello_rules.specs.declared.scoring.Scoring.{Scoring}
use Rattle.othello_rules.specs.Rules as rules
use Rattle.othello_rules.specs.Rules.{GridView}
use Rattle.othello_rules.specs.Value as worth
use Rattle.othello_rules.specs.Answer.{IsScore}
use Rattle.othello_rules.proofs.MoveLaws as moves
use Rattle.othello_rules.proofs.BoundLaws as bounds
use Rattle.othello_rules.proofs.RangeLaws.{value-IsScore}
use Rattle.othello_rules.proofs.CountLaws as counts
use Rattle.othello_rules.proofs.ValueLaws as laws
use Rattle.othello_bits.specs.Pos.{mask_where, PosView, cells_of, position_of, discs_of, moves_of, play_of, pass_of}
use Rattle.othello_bits.specs.Pos.{IsMove, HasNoMove, NeitherHasMove, empties_of, final_of, value_of, answer_of}
use Rattle.othello_bits.proofs.CellLaws.{length-cells_of}
use Rattle.othello_bits.proofs.PlayMeaning.{position_of-discs_of}
use Rattle.othello_bits.proofs.CountMeaning.{count-empty}
use Rattle.othello_bits.proofs.MaskMeaning.{no_moves, IsMove-from, IsMove-on_board, is_move-from_IsMove}
use Rattle.othello_bits.proofs.ColourMeaning.{value-either, answer-either, is_move-either}

-- the masks of a position of 64 cells keep its value, its moves and its empty squares
pub value-discs_of : (g : Scoring) (P : GridView) → length P.cells ≡ 64 → value_of g (discs_of P) ≡ worth.value g P
unfolding value_of
value-discs_of g P whole = value-either g Black P.mover (discs_of P) ∙ ap (worth.value g) (position_of-discs_of P whole)

pub answer-discs_of : (g : Scoring) (P : GridView) → length P.cells ≡ 64 → answer_of g (discs_of P) ≡ worth.answer g P
unfolding answer_of
answer-discs_of g P whole = answer-either g Black P.mover (discs_of P) ∙ ap (worth.answer g) (position_of-discs_of P whole)

pub empties-discs_of : (P : GridView) → length P.cells ≡ 64 → empties_of (discs_of P) ≡ worth.empties P
unfolding empties_of
empties-discs_of P whole = count-empty Black (discs_of P) ∙ sym (count-empty P.mover (discs_of P)) ∙ ap worth.empties (position_of-discs_of P whole)

moves-discs_of : (P : GridView) → length P.cells ≡ 64 → moves_of (discs_of P) ≡ mask_where (rules.is_move P)
unfolding moves_of rules.moves
moves-discs_of P whole =
    let each : rules.is_move (position_of Black (discs_of P)) ≡ rules.is_move P =
    λ k q. (is_move-either Black P.mover (discs_of P) q ∙ ap (λ Q. rules.is_move Q q) (position_of-discs_of P whole)) k in
    ap mask_where each

whole_pass : (p : PosView) → length (rules.pass (position_of Black p)).cells ≡ 64
whole_pass p = length-cells_of Black p

whole_play : (p : PosView) (q : ℕ) → length (rules.play (position_of Black p) q).cells ≡ 64
whole_play p q = counts.length-play (position_of Black p) q ∙ length-cells_of Black p

pub value_play : (g : Scoring) (p : PosView) (q : ℕ) → value_of g (play_of p q) ≡ worth.value g (rules.play (position_of Black p) q)
unfolding play_of
value_play g p q = value-discs_of g (rules.play (position_of Black p) q) (whole_play p q)

value_pass : (g : Scoring) (p : PosView) → value_of g (pass_of p) ≡ worth.value g (rules.pass (position_of Black p))
unfolding pass_of
value_pass g p = value-discs_of g (rules.pass (position_of Black p)) (whole_pass p)

pub cannot_move : (p : PosView) → HasNoMove p → worth.can_move (position_of Black p) ≡ false
unfolding moves_of rules.moves
cannot_move p h = (no_moves (position_of Black p)).0 h

pass_moves : (p : PosView) → moves_of (pass_of p) ≡ mask_where (rules.is_move (rules.pass (position_of Black p)))
unfolding pass_of
pass_moves p = moves-discs_of (rules.pass (position_of Black p)) (whole_pass p)

pub cannot_reply : (p : PosView) → HasNoMove (pass_of p) → worth.can_move (rules.pass (position_of Black p)) ≡ false
cannot_reply p h = (no_moves (rules.pass (position_of Black p))).0 (sym (pass_moves p) ∙ h)

pub can_reply : (p : PosView) → (HasNoMove (pass_of p) → ⊥) → worth.can_move (rules.pass (position_of Black p)) ≡ true
can_reply p n =
    elim (cases_Bool (worth.can_move (rules.pass (position_of Black p)))) [
      | inl t ↦ t
      | inr f ↦ absurd (n (pass_moves p ∙ (no_moves (rules.pass (position_of Black p))).1 f))
    ]

pub can_go : (p : PosView) → (moves_of p ≡ 0 → ⊥) → worth.can_move (position_of Black p) ≡ true
unfolding moves_of rules.moves
can_go p n =
    elim (cases_Bool (worth.can_move (position_of Black p))) [
      | inl t ↦ t
      | inr f ↦ absurd (n ((no_moves (position_of Black p)).1 f))
    ]

contained : (p : PosView) (q : ℕ) → IsMove p q → Contains (rules.moves (position_of Black p)) q
contained p q m = moves.Contains-moves (position_of Black p) q (IsMove-on_board p q m) (is_move-from_IsMove p q m)

pub value-over : (g : Scoring) (p : PosView) → NeitherHasMove p → value_of g p ≡ final_of g p
unfolding value_of final_of
value-over g p (h, k) = laws.value-over g (position_of Black p) (cannot_move p h) (cannot_reply p k)

pub value-pass : (g : Scoring) (p : PosView) → HasNoMove p → (HasNoMove (pass_of p) → ⊥) → value_of g p ≡ neg_ℤ (value_of g (pass_of p))
unfolding value_of
value-pass g p h n = laws.value-pass g (position_of Black p) (cannot_move p h) (can_reply p n) ∙ ap neg_ℤ (sym (value_pass g p))

pub value_above : (g : Scoring) (p : PosView) (q : ℕ) → IsMove p q → neg_ℤ (value_of g (play_of p q)) ≤ℤ value_of g p
unfolding value_of
value_above g p q m =
    subst (λ z. neg_ℤ z ≤ℤ worth.value g (position_of Black p)) (sym (value_play g p q)) (bounds.worth-le-value g (position_of Black p) q (contained p q m))

pub value_reached : (g : Scoring) (p : PosView) → (moves_of p ≡ 0 → ⊥) → (q : ℕ) × IsMove p q × (neg_ℤ (value_of g (play_of p q)) ≡ value_of g p)
unfolding value_of
value_reached g p n =
    let r : (q : ℕ) × Contains (rules.moves (position_of Black p)) q
    × (neg_ℤ (worth.value g (rules.play (position_of Black p) q)) ≡ worth.value g (position_of Black p)) =
    bounds.value_reached g (position_of Black p) (can_go p n) in (
      r.0,
      IsMove-from p r.0 (moves.square_below r.0 (moves.move_on_board (position_of Black p) r.0 r.1))
          (moves.is_move-from_Contains (position_of Black p) r.0 r.1),
      ap neg_ℤ (value_play g p r.0) ∙ r.2,
    )

pub value_score : (g : Scoring) (p : PosView) → IsScore (value_of g p)
unfolding value_of
value_score g p =
    let whole : length (cells_of Black p) ≤ 64 = omega (arith, length-cells_of Black p) in
    value-IsScore g (position_of Black p) whole

pub empties-move : (p : PosView) (q : ℕ) → IsMove p q → empties_of (play_of p q) + 1 ≡ empties_of p
unfolding empties_of play_of
empties-move p q m =
    let e : empties_of (play_of p q) ≡ worth.empties (rules.play (position_of Black p) q) =
    empties-discs_of (rules.play (position_of Black p) q) (whole_play p q) in
    ap (λ n. n + 1) e ∙ counts.empties-play (position_of Black p) q (contained p q m)

pub empties_positive : (p : PosView) (q : ℕ) → IsMove p q → 0 < empties_of p
empties_positive p q m = omega (arith, empties-move p q m)

pub empties-play : (p : PosView) (q : ℕ) → IsMove p q → empties_of (play_of p q) ≡ empties_of p - 1
empties-play p q m = omega (arith, empties-move p q m)

pub empties-pass : (p : PosView) → empties_of (pass_of p) ≡ empties_of p
unfolding empties_of pass_of
empties-pass p = empties-discs_of (rules.pass (position_of Black p)) (whole_pass p)
