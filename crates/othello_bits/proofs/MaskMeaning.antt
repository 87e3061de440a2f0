-- Masks of moves and of turned squares, in the words of the rules.
use Rattle.std.proofs.Common.{◌≡◌, ℕ, ◌<◌, ◌^◌, ◌↔◌, true, false, eqb, not, ◌&&◌, ◌||◌, ◌*◌, ◌%◌, bit_and, bit_or, arith, [], ap, sym, subst, ◌∙◌, inl, inr}
use Rattle.std.specs.Int.{bit_not, w64}
use Rattle.std.proofs.lemmas.Nat.{or_lt, and_le_l}
use Rattle.std.specs.List.{Contains}
use Rattle.std.proofs.lemmas.Bool.{false_from_ne_true, both_ways, cases_lt, eqb-true, eq-eqb}
use Rattle.othello_rules.specs.declared.discs.Side.{Side}
use Rattle.othello_rules.specs.declared.discs.Side.TheVariants.{Black}
use Rattle.othello_rules.specs.declared.discs.Cell.TheVariants.{Empty}
use Rattle.othello_rules.specs.Rules as rules
use Rattle.othello_rules.specs.Rules.{GridView, other}
use Rattle.othello_rules.specs.Value as worth
use Rattle.othello_rules.proofs.ListLaws.{Contains-nil}
use Rattle.othello_rules.proofs.MoveLaws.{Contains-moves, flips_occupied}
use Rattle.othello_rules.proofs.BoundLaws.{can_move_none, can_move_with, moves_none}
use Rattle.othello_rules.specs.Masks.{in_mask}
use Rattle.othello_bits.specs.Shifts.{turns_any, is_turned}
use Rattle.othello_bits.proofs.TurnedMasks.{own_after, opp_after, zero_from_none, some_of, not_empty, after_own, after_opp, after_apart}
use Rattle.othello_bits.specs.Pos.{mem, mask_where, PosView, discs, position_of, moves_of, flips_of, pass_of, play_of, discs_of, IsMove, NeitherHasMove}
use Rattle.othello_bits.proofs.TestMasks.{in_mask-where, where_lt, is_where}
use Rattle.othello_bits.proofs.Bits.{in_mask-above, none_from_zero, some_square}
use Rattle.othello_bits.proofs.CellLaws.{AreApart, slice_get_off_board}
use Rattle.othello_bits.proofs.MoveMeaning.{is_move-meaning, is_turned-meaning, free-from_is_move}
use Rattle.othello_bits.proofs.PlayMeaning.{AreMasks, apart-masks, pass-meaning, play-meaning, discs_of-position_of}

-- a mask of moves is 0 where there are none
pub no_moves : (P : GridView) → (mask_where (rules.is_move P) ≡ 0) ↔ (worth.can_move P ≡ false)
no_moves P = (
  λ e. can_move_none P (λ q h. sym (in_mask-where (rules.is_move P) q h) ∙ none_from_zero (mask_where (rules.is_move P)) e q),
  λ e.
      zero_from_none (mask_where (rules.is_move P)) (where_lt (rules.is_move P))
      (λ q h. in_mask-where (rules.is_move P) q h
      ∙ false_from_ne_true (rules.is_move P q) (λ m. both_ways (worth.can_move P) e (can_move_with P q (Contains-moves P q h m)))),
)

on_board : (s : Side) (p : PosView) (q : ℕ) → rules.is_move (position_of s p) q ≡ true → q < 64
on_board s p q m =
    elim (cases_lt q 64) [
      | inl l ↦ l
      | inr g ↦
          let e : rules.has (position_of s p) Empty q ≡ false = ap (rules.is_some_cell Empty) (slice_get_off_board s p q g) in
          absurd (both_ways (rules.is_move (position_of s p) q) (ap rules.is_nonempty (flips_occupied (position_of s p) q e)) m)
    ]

pub IsMove-from : (p : PosView) (q : ℕ) → q < 64 → rules.is_move (position_of Black p) q ≡ true → IsMove p q
unfolding moves_of rules.moves
IsMove-from p q h m = in_mask-where (rules.is_move (position_of Black p)) q h ∙ m

pub IsMove-on_board : (p : PosView) (q : ℕ) → IsMove p q → q < 64
unfolding moves_of rules.moves
IsMove-on_board p q m =
    elim (cases_lt q 64) [
      | inl l ↦ l
      | inr g ↦ absurd (both_ways (in_mask (moves_of p) q) (in_mask-above (moves_of p) q (where_lt (rules.is_move (position_of Black p))) g) m)
    ]

pub is_move-from_IsMove : (p : PosView) (q : ℕ) → IsMove p q → rules.is_move (position_of Black p) q ≡ true
unfolding moves_of rules.moves
is_move-from_IsMove p q m = sym (in_mask-where (rules.is_move (position_of Black p)) q (IsMove-on_board p q m)) ∙ m

pub moves_of-is : (p : PosView) (m : ℕ) → m < 2 ^ 64 → AreApart p
    → ((q : ℕ) → q < 64 → in_mask m q ≡ turns_any (in_mask p.own) (in_mask p.opp) q) → m ≡ moves_of p
unfolding moves_of rules.moves
moves_of-is p m h fine e = is_where m (rules.is_move (position_of Black p)) h (λ q l. e q l ∙ is_move-meaning Black p fine q l)

pub pass_of-is : (p : PosView) → AreApart p → AreApart (discs p.opp p.own) → discs p.opp p.own ≡ pass_of p
unfolding pass_of
pass_of-is p fine fine_too = sym (discs_of-position_of (other Black) (discs p.opp p.own) fine_too) ∙ ap discs_of (pass-meaning Black p fine)

moves_of_lt : (p : PosView) → moves_of p < 2 ^ 64
unfolding moves_of rules.moves
moves_of_lt p = where_lt (rules.is_move (position_of Black p))

-- a square is a move exactly where the mask of the turned squares is not 0
module _ (p : PosView) (q f : ℕ) (fits : f < 2 ^ 64) (turns : (s : Side) (i : ℕ) → in_mask f i ≡ mem i (rules.flips (position_of s p) q)) where
  pub moving : (s : Side) → (f ≡ 0 → ⊥) → rules.is_move (position_of s p) q ≡ true
  moving s n =
      let t = some_square f fits n in
      not_empty (rules.flips (position_of s p) q) t.0 (sym (turns s t.0) ∙ t.1)

  pub idle : (s : Side) → f ≡ 0 → rules.is_move (position_of s p) q ≡ false
  idle s e =
      false_from_ne_true (rules.is_move (position_of s p) q) (λ m.
      let t = some_of (rules.flips (position_of s p) q) m in
      both_ways (in_mask f t.0) (none_from_zero f e t.0) (turns s t.0 ∙ t.1))

  pub no_move : f ≡ 0 → IsMove p q → ⊥
  no_move e m = both_ways (rules.is_move (position_of Black p) q) (idle Black e) (is_move-from_IsMove p q m)

  pub a_move : (f ≡ 0 → ⊥) → IsMove p q
  a_move n = IsMove-from p q (on_board Black p q (moving Black n)) (moving Black n)

-- the end of the game
pub none-is : (s : Side) (p : PosView) → (m : ℕ) → m ≡ moves_of p
    → ((q : ℕ) → q < 64 → in_mask m q ≡ rules.is_move (position_of s p) q) → (m ≡ 0) ↔ (rules.moves (position_of s p) ≡ [])
none-is s p m is each = (
  λ e. moves_none (position_of s p) (can_move_none (position_of s p) (λ q h. sym (each q h) ∙ none_from_zero m e q)),
  λ e.
      zero_from_none m (rw is (moves_of_lt p))
      (λ q h. each q h ∙ false_from_ne_true (rules.is_move (position_of s p) q)
      (λ b. Contains-nil q (subst (λ qs. Contains qs q) e (Contains-moves (position_of s p) q h b)))),
)

module _ (p passed : PosView) (a b : ℕ) (here : a ≡ moves_of p) (there : b ≡ moves_of passed)
    (here_each : (t : Side) (q : ℕ) → q < 64 → in_mask a q ≡ rules.is_move (position_of t p) q)
    (there_each : (t : Side) (q : ℕ) → q < 64 → in_mask b q ≡ rules.is_move (position_of t passed) q)
    (meaning : (t : Side) → position_of (other t) passed ≡ rules.pass (position_of t p))
    (value : passed ≡ pass_of p)
  where
    pub over_here : (s : Side) → (eqb b 0 ≡ true → a ≡ 0 → rules.IsOver (position_of s p)) × (rules.IsOver (position_of s p) → (a ≡ 0) × (eqb b 0 ≡ true))
    over_here s =
        let mine = none-is s p a here (here_each s) in
        let n = none-is (other s) passed b there (there_each (other s)) in
        let e : rules.moves (position_of (other s) passed) ≡ rules.moves (rules.pass (position_of s p)) = ap rules.moves (meaning s) in
        (λ t z. (mine.0 z, sym e ∙ n.0 (eqb-true b 0 t)), λ o. (mine.1 o.0, eq-eqb b 0 (n.1 (e ∙ o.1))))

    pub over_masks : (eqb b 0 ≡ true → a ≡ 0 → NeitherHasMove p) × (NeitherHasMove p → (a ≡ 0) × (eqb b 0 ≡ true))
    over_masks =
        let e : moves_of (pass_of p) ≡ b = ap moves_of (sym value) ∙ sym there in
        (λ t z. (sym here ∙ z, e ∙ eqb-true b 0 t), λ o. (here ∙ o.0, eq-eqb b 0 (sym e ∙ o.1)))

-- the masks after a move
module _ (own opp flips q : ℕ) (masks : AreMasks own opp) (hflips : flips < 2 ^ 64) (legal : IsMove (discs own opp) q)
    (turned : flips ≡ flips_of (discs own opp) q) where
  abbrev own_then : ℕ
  own_then = bit_and opp (bit_not w64 flips)

  abbrev opp_then : ℕ
  opp_then = bit_or own (bit_or (1 * 2 ^ q % 2 ^ 64) flips)

  fine : AreApart (discs own opp)
  fine = apart-masks own opp masks

  on_board_then : q < 64
  on_board_then = IsMove-on_board (discs own opp) q legal

  free : in_mask opp q ≡ false
  free = free-from_is_move Black (discs own opp) fine q on_board_then (is_move-from_IsMove (discs own opp) q legal)

  turns : (i : ℕ) → i < 64 → in_mask flips i ≡ is_turned (in_mask own) (in_mask opp) q i
  unfolding flips_of
  turns i l =
      ap (λ m. in_mask m i) turned ∙ in_mask-where (λ i. mem i (rules.flips (position_of Black (discs own opp)) q)) i l
      ∙ sym (is_turned-meaning Black (discs own opp) fine q i on_board_then)

  own_is : (i : ℕ) → i < 64 → in_mask own_then i ≡ own_after (in_mask own) (in_mask opp) q i
  own_is i h = after_own own opp flips q masks.1 masks.2 hflips on_board_then i h ∙ ap (λ b. in_mask opp i && not b) (turns i h)

  opp_is : (i : ℕ) → i < 64 → in_mask opp_then i ≡ opp_after (in_mask own) (in_mask opp) q i
  opp_is i h = after_opp own opp flips q masks.1 masks.2 hflips on_board_then i ∙ ap (λ b. in_mask own i || (eqb i q || b)) (turns i h)

  pub then_apart : AreMasks own_then opp_then
  then_apart =
      let one : 1 * 2 ^ q % 2 ^ 64 < 2 ^ 64 = omega arith in (
        after_apart own opp flips q masks.1 masks.2 hflips on_board_then fine.apart free,
        omega (arith, and_le_l opp (bit_not w64 flips), masks.2),
        or_lt 64 own (bit_or (1 * 2 ^ q % 2 ^ 64) flips) masks.1 (or_lt 64 (1 * 2 ^ q % 2 ^ 64) flips one hflips),
      )

  pub then_meaning : (s : Side) → position_of (other s) (discs own_then opp_then) ≡ rules.play (position_of s (discs own opp)) q
  then_meaning s = play-meaning s (discs own opp) (discs own_then opp_then) q fine on_board_then free own_is opp_is

  pub then_value : discs own_then opp_then ≡ play_of (discs own opp) q
  unfolding play_of
  then_value =
      sym (discs_of-position_of (other Black) (discs own_then opp_then) (apart-masks own_then opp_then then_apart))
      ∙ ap discs_of (then_meaning Black)
