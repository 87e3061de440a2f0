-- What is left of the game where one square is empty.
use Rattle.std.proofs.Common.{◌≡◌, ◌≢◌, ℕ, ◌<◌, true, false, cond, not, ◌||◌, nat_eq, ◌∷◌, length, get_or, refl, sym, ap, ◌∙◌, subst, inl, inr, neg_ℤ}
use Rattle.std.specs.List.{list_any}
use Rattle.std.proofs.lemmas.Bool.{cases_Bool, cases_eq, eq-eqb, both_ways, or_left}
use Rattle.othello_rules.specs.declared.scoring.Scoring.{Scoring}
use Rattle.othello_rules.specs.declared.scoring.Scoring.TheVariants.{Winner}
use Rattle.othello_rules.specs.declared.discs.Cell.TheVariants as cell
use Rattle.othello_rules.specs.declared.discs.Side.{Side}
use Rattle.othello_rules.specs.declared.discs.Side.TheVariants as side
use Rattle.othello_rules.specs.Rules as rules
use Rattle.othello_rules.specs.Rules.{GridView, has, own, disc, same_cell}
use Rattle.othello_rules.specs.Masks.{in_mask}
use Rattle.othello_rules.proofs.MoveLaws.{move_empty}
use Rattle.othello_rules.proofs.PaintLaws.{get_or-painted}
use Rattle.othello_rules.proofs.CountLaws as counts
use Rattle.othello_bits.specs.Pos.{PosView, position_of, cell_at, moves_of, play_of, pass_of, final_of, value_of, IsMove, HasNoMove}
use Rattle.othello_bits.proofs.Bits.{none_from_zero}
use Rattle.othello_bits.proofs.CellLaws.{length-cells_of, get_or-cells_of, same-empty_cell, has_empty}
use Rattle.othello_bits.proofs.MaskMeaning.{is_move-from_IsMove}
use Rattle.othello_bits.proofs.PlayMeaning.{position_of-discs_of}
use Rattle.othello_bits.proofs.GameLaws.{value-over, value_reached}
use Rattle.endgame_search.specs.LastSquare.{IsEmptySquare, IsFullExcept}

on_board : (s : Side) (p : PosView) (q : ℕ) → has (position_of s p) cell.Empty q ≡ true → q < 64
on_board s p q h = subst (λ n. q < n) (length-cells_of s p) (counts.has_within (position_of s p) cell.Empty q h)

-- whichever side is the mover
empty-either : (s t : Side) (p : PosView) (q : ℕ) → has (position_of s p) cell.Empty q ≡ true → has (position_of t p) cell.Empty q ≡ true
empty-either s t p q h = has_empty t p q (on_board s p q h) ∙ sym (has_empty s p q (on_board s p q h)) ∙ h

pub empty_mask : (p : PosView) (q : ℕ) → IsEmptySquare p q → not (in_mask p.own q || in_mask p.opp q) ≡ true
empty_mask p q h = sym (has_empty side.Black p q (on_board side.Black p q h)) ∙ h

pub empty_below : (p : PosView) (q : ℕ) → IsEmptySquare p q → q < 64
empty_below p q h = on_board side.Black p q h

pub moves_to_empty : (p : PosView) (q : ℕ) → IsMove p q → IsEmptySquare p q
moves_to_empty p q m = move_empty (position_of side.Black p) q (is_move-from_IsMove p q m)

pub pass_empty : (p : PosView) (q : ℕ) → IsEmptySquare (pass_of p) q → IsEmptySquare p q
unfolding pass_of
pass_empty p q h =
    let e : position_of side.White (pass_of p) ≡ rules.pass (position_of side.Black p) =
    position_of-discs_of (rules.pass (position_of side.Black p)) (length-cells_of side.Black p) in
    subst (λ P. has P cell.Empty q ≡ true) e (empty-either side.Black side.White (pass_of p) q h)

disc-no_empty : (s : Side) → same_cell cell.Empty (disc s) ≡ false
disc-no_empty side.Black = refl
disc-no_empty side.White = refl

-- a square that is empty after a move was empty before it, and is not the move's
pub play_empty : (p : PosView) (q i : ℕ) → IsEmptySquare (play_of p q) i → IsEmptySquare p i × (i ≢ q)
unfolding play_of rules.play
play_empty p q i h =
    let P = position_of side.Black p in
    let qs = q ∷ rules.flips P q in
    let whole : length (rules.play P q).cells ≡ 64 = counts.length-play P q ∙ length-cells_of side.Black p in
    let e : position_of side.White (play_of p q) ≡ rules.play P q = position_of-discs_of (rules.play P q) whole in
    let after : has (rules.play P q) cell.Empty i ≡ true = subst (λ Q. has Q cell.Empty i ≡ true) e (empty-either side.Black side.White (play_of p q) i h) in
    let low : i < 64 = on_board side.Black (play_of p q) i h in
    let within : i < length P.cells = subst (λ n. i < n) (sym (length-cells_of side.Black p)) low in
    let painted : get_or (rules.painted_cells (own P) qs P.cells) i cell.Empty ≡ cond (list_any (nat_eq i) qs) (own P) (get_or P.cells i cell.Empty) =
    get_or-painted (own P) qs P.cells i cell.Empty within in
    let there : same_cell cell.Empty (cond (list_any (nat_eq i) qs) (own P) (get_or P.cells i cell.Empty)) ≡ true =
    ap (same_cell cell.Empty) (sym painted) ∙ counts.has_get_or (rules.play P q) cell.Empty i cell.Empty after in
    elim (cases_Bool (list_any (nat_eq i) qs)) [
      | inl b ↦
          absurd (both_ways (same_cell cell.Empty (own P)) (disc-no_empty side.Black)
          (subst (λ t. same_cell cell.Empty (cond t (own P) (get_or P.cells i cell.Empty)) ≡ true) b there))
      | inr b ↦
          let old : same_cell cell.Empty (get_or P.cells i cell.Empty) ≡ true =
          subst (λ t. same_cell cell.Empty (cond t (own P) (get_or P.cells i cell.Empty)) ≡ true) b there in
          let was : same_cell cell.Empty (cell_at side.Black p i) ≡ true =
          ap (same_cell cell.Empty) (sym (get_or-cells_of side.Black p i cell.Empty low)) ∙ old in (
            has_empty side.Black p i low ∙ sym (same-empty_cell side.Black p i) ∙ was,
            λ same. both_ways (list_any (nat_eq i) qs) b (or_left (nat_eq i q) (list_any (nat_eq i) (rules.flips P q)) (eq-eqb i q same)),
          )
    ]

pub no_moves_from : (p : PosView) → ((q : ℕ) → IsMove p q → ⊥) → HasNoMove p
no_moves_from p none =
    elim (cases_eq (moves_of p) 0) [
      | inl e ↦ e
      | inr n ↦ let r = value_reached Winner p n in absurd (none r.0 r.1)
    ]

pub last_some : (p : PosView) (s : ℕ) → IsMove p s → moves_of p ≢ 0
last_some p s m z = both_ways (in_mask (moves_of p) s) (none_from_zero (moves_of p) z s) m

module _ (p : PosView) (full : (q : ℕ) → IsEmptySquare p q → ⊥) where
  full_over : HasNoMove p × HasNoMove (pass_of p)
  full_over =
      (no_moves_from p (λ q m. full q (moves_to_empty p q m)), no_moves_from (pass_of p) (λ q m. full q (pass_empty p q (moves_to_empty (pass_of p) q m))))

module _ (p : PosView) (s : ℕ) (last : IsFullExcept p s) where
  pub full_after : (q : ℕ) → IsEmptySquare (play_of p s) q → ⊥
  full_after q h = let f = play_empty p s q h in f.1 (last q f.0)

  pub last_moves : (IsMove p s → ⊥) → HasNoMove p
  last_moves none = no_moves_from p (λ q m. none (subst (IsMove p) (last q (moves_to_empty p q m)) m))

  pub last_pass : IsFullExcept (pass_of p) s
  last_pass q h = last q (pass_empty p q h)

  pub last_worth : (g : Scoring) → IsMove p s → value_of g p ≡ neg_ℤ (final_of g (play_of p s))
  last_worth g m =
      let r = value_reached g p (last_some p s m) in
      let e : r.0 ≡ s = last r.0 (moves_to_empty p r.0 r.1) in
      sym r.2 ∙ ap (λ q. neg_ℤ (value_of g (play_of p q))) e ∙ ap neg_ℤ (value-over g (play_of p s) (full_over (play_of p s) full_after))
