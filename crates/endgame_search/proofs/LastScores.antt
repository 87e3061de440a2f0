-- The value where one square is empty and the mover moves there, from the count of discs that the move turns.
use Rattle.std.proofs.Common.{◌≡◌, ℕ, zero, suc, ◌+◌, ◌-◌, ◌<◌, ◌≤◌, ◌^◌, Bool, true, false, cond, not, ◌&&◌, ◌||◌, eqb}
use Rattle.std.proofs.Common.{nat_eq, List, [], ◌∷◌, length, get_or, Option, Some, None, refl, sym, ap, ◌∙◌, subst, inl}
use Rattle.std.proofs.Common.{inr, arith, ℤ, pos, negsuc, neg_ℤ, ◌-ℤ◌}
use Rattle.std.specs.Prelude.{slice_get, nat_lt}
use Rattle.std.specs.List.{list_any, count_by}
use Rattle.std.specs.Int.{int_signum}
use Rattle.std.specs.Int.Count.{ones}
use Rattle.std.proofs.lemmas.Bool.{agree_below_at, cases_Bool, cases_lt, eqb-true, eq-eqb, false≢true}
use Rattle.std.proofs.lemmas.Bool.{false_from_ne_true, and_parts, or_cases, both_ways, ltb-true}
use Rattle.std.proofs.lemmas.Int.{ints}
use Rattle.std.proofs.lemmas.Nat.{ones-le, zero_from_ones}
use Rattle.std.proofs.Math.Bool.{or-true, or-false}
use Rattle.std.proofs.lemmas.Map.Views.{Contains-from_any}
use Rattle.std.proofs.lemmas.Option.{slice_get-get_or}
use Rattle.othello_rules.specs.declared.scoring.Scoring.{Scoring}
use Rattle.othello_rules.specs.declared.scoring.Scoring.TheVariants.{Winner, Discs as PlainDiscs, Sign}
use Rattle.othello_rules.specs.declared.discs.Cell.{Cell}
use Rattle.othello_rules.specs.declared.discs.Cell.TheVariants as cell
use Rattle.othello_rules.specs.declared.discs.Side.TheVariants.{Black}
use Rattle.othello_rules.specs.Board.{squares}
use Rattle.othello_rules.specs.Scores.{score_of}
use Rattle.othello_rules.specs.Rules as rules
use Rattle.othello_rules.specs.Rules.{GridView, has, own, opposing, same_cell, is_some_cell}
use Rattle.othello_rules.specs.Masks.{in_mask}
use Rattle.othello_rules.proofs.CountLaws as counts
use Rattle.othello_rules.proofs.MoveLaws.{move_empty, opposing_in_flips}
use Rattle.othello_rules.proofs.PaintLaws.{get_or-painted}
use Rattle.othello_bits.specs.Pos.{PosView, mem, mask_where, cell_at, position_of, discs_of, flips_of, play_of, final_of, value_of, IsMove}
use Rattle.othello_bits.proofs.Bits.{in_mask-above, eqb_sym, some_square, none_from_zero}
use Rattle.othello_bits.proofs.Numbers.{count_below, both_below, is_number, ones_number}
use Rattle.othello_bits.proofs.TestMasks.{where-number, where_lt, is_where, in_mask-where}
use Rattle.othello_bits.proofs.TurnedMasks.{ones_count, partition}
use Rattle.othello_bits.proofs.CellLaws.{AreApart, length-cells_of, get_or-cells_of, same-own_cell, has_empty}
use Rattle.othello_bits.proofs.CountMeaning.{final-meaning}
use Rattle.othello_bits.proofs.MaskMeaning.{is_move-from_IsMove, IsMove-from, IsMove-on_board}
use Rattle.endgame_search.specs.LastSquare.{IsFullExcept}
use Rattle.endgame_search.proofs.LastSquareLemmas.{moves_to_empty, empty_mask, last_worth, full_after}

-- counts of sets of squares
none_below : (n : ℕ) (f : ℕ → Bool) → ((i : ℕ) → i < n → f i ≡ false) → count_below n f ≡ 0
unfolding count_below
none_below zero f h = refl
none_below (suc n) f h =
    let e : f n ≡ false = h n (omega arith) in
    let r : count_below n f ≡ 0 = none_below n f (λ i l. h i (omega arith)) in
    rw (e, r) refl

one_below : (s : ℕ) → s < 64 → count_below 64 (λ i. eqb i s) ≡ 1
unfolding count_below
one_below s h = eqb-true (count_below 64 (λ i. eqb i s)) 1 (agree_below_at (λ t. eqb (count_below 64 (λ i. eqb i t)) 1) (λ t. true) 64 s refl h)

count-squares : (f : ℕ → Bool) → count_by f squares ≡ count_below 64 f
unfolding count_below squares
count-squares f = omega arith

ones_where : (f : ℕ → Bool) → ones (mask_where f) ≡ count_below 64 f
ones_where f = ap ones (where-number f) ∙ ones_number 64 f

ones_mask : (m : ℕ) → m < 2 ^ 64 → ones m ≡ count_below 64 (in_mask m)
ones_mask m h = ap ones (is_number m (in_mask m) h (λ i l. refl)) ∙ ones_number 64 (in_mask m)

-- the score as the other side sees it
signum-neg : (z : ℤ) → neg_ℤ (int_signum z) ≡ int_signum (neg_ℤ z)
signum-neg (pos zero) = refl
signum-neg (pos (suc n)) = omega (arith, ints)
signum-neg (negsuc n) = omega (arith, ints)

pub score-turned : (g : Scoring) (a b e : ℕ) → neg_ℤ (score_of g a b e) ≡ score_of g b a e
score-turned Winner a b e =
    elim (cases_Bool (nat_lt b a)) [
      | inl t ↦
          elim (cases_Bool (nat_lt a b)) [
            | inl u ↦ absurd (omega (arith, ltb-true b a t, ltb-true a b u))
            | inr u ↦ rw (t, u) (omega (arith, ints))
          ]
      | inr t ↦ elim (cases_Bool (nat_lt a b)) [ inl u ↦ rw (t, u) (omega (arith, ints)) | inr u ↦ rw (t, u) refl ]
    ]
score-turned PlainDiscs a b e = omega (arith, ints)
score-turned Sign a b e = let h : neg_ℤ (pos a -ℤ pos b) ≡ pos b -ℤ pos a = omega (arith, ints) in signum-neg (pos a -ℤ pos b) ∙ ap int_signum h

any-is_mem : (i : ℕ) (xs : List ℕ) → list_any (nat_eq i) xs ≡ mem i xs
any-is_mem i xs = let same : nat_eq i ≡ (λ x. eqb x i) = λ k x. eqb_sym i x k in ap (λ (t : ℕ → Bool). list_any t xs) same

one_disc : (o : Option Cell) → (is_some_cell cell.White o && is_some_cell cell.Black o) ≡ false
one_disc None = refl
one_disc (Some cell.Empty) = refl
one_disc (Some cell.Black) = refl
one_disc (Some cell.White) = refl

painted_black : (t : Bool) (c : Cell) → same_cell cell.Black (cond t cell.Black c) ≡ (same_cell cell.Black c || t)
painted_black true c = sym (or-true (same_cell cell.Black c))
painted_black false c = sym (or-false (same_cell cell.Black c))

-- an empty square
empty_not_white : (a b : Bool) → not (a || b) ≡ true → same_cell cell.White (cond a cell.Black (cond b cell.White cell.Empty)) ≡ false
empty_not_white true b h = refl
empty_not_white false true h = absurd (false≢true h)
empty_not_white false false h = refl

empty_not_own : (a b : Bool) → not (a || b) ≡ true → a ≡ false
empty_not_own true b h = absurd (false≢true h)
empty_not_own false b h = refl

first_turned : (xs : List ℕ) → rules.is_nonempty xs ≡ true → (i : ℕ) × (mem i xs ≡ true)
first_turned [] e = absurd (false≢true e)
first_turned (x ∷ xs) e = (x, ap (λ b. b || mem x xs) (eq-eqb x x refl))

not_empty : (xs : List ℕ) (i : ℕ) → mem i xs ≡ true → rules.is_nonempty xs ≡ true
not_empty [] i e = absurd (false≢true e)
not_empty (x ∷ xs) i e = refl

-- the masks after a move share no square
play_apart : (p : PosView) (s : ℕ) → AreApart (play_of p s)
unfolding play_of discs_of rules.play
play_apart p s =
    let Q = rules.play (position_of Black p) s in
    record {
      own_fits = where_lt (has Q (own Q));
      opp_fits = where_lt (has Q (opposing Q));
      apart = λ i.
          elim (cases_lt i 64) [
            | inl l ↦ (λ k. in_mask-where (has Q (own Q)) i l k && in_mask-where (has Q (opposing Q)) i l k) ∙ one_disc (slice_get Q.cells i)
            | inr g ↦ ap (λ b. b && in_mask (mask_where (has Q (opposing Q))) i) (in_mask-above (mask_where (has Q (own Q))) i (where_lt (has Q (own Q))) g)
          ];
    }

module _ (p : PosView) (s : ℕ) (m : IsMove p s) where
  turns : ℕ → Bool
  turns i = mem i (rules.flips (position_of Black p) s)

  -- after it the mover has its own discs, the one put on s and those turned
  after_move : (i : ℕ) → i < 64 → in_mask (play_of p s).opp i ≡ (in_mask p.own i || (eqb i s || turns i))
  unfolding play_of discs_of rules.play turns
  after_move i h =
      let P = position_of Black p in
      let Q = rules.play P s in
      let low : i < length P.cells = subst (λ n. i < n) (sym (length-cells_of Black p)) h in
      let within : i < length Q.cells = subst (λ n. i < n) (sym (counts.length-play P s)) low in
      let painted : get_or Q.cells i cell.Empty ≡ cond (eqb i s || turns i) cell.Black (cell_at Black p i) =
      get_or-painted (own P) (s ∷ rules.flips P s) P.cells i cell.Empty low
      ∙ (λ k. cond (eqb i s || any-is_mem i (rules.flips P s) k) cell.Black (get_or-cells_of Black p i cell.Empty h k)) in
      in_mask-where (has Q (opposing Q)) i h
      ∙ ap (is_some_cell cell.Black) (slice_get-get_or Q.cells i cell.Empty within)
      ∙ ap (same_cell cell.Black) painted
      ∙ painted_black (eqb i s || turns i) (cell_at Black p i)
      ∙ ap (λ b. b || (eqb i s || turns i)) (same-own_cell Black p i)

  -- a disc that is turned was the other side's
  turns_other : (i : ℕ) → turns i ≡ true → has (position_of Black p) cell.White i ≡ true
  unfolding turns
  turns_other i t =
      let P = position_of Black p in
      opposing_in_flips P s i (Contains-from_any eqb-true i (rules.flips P s) (any-is_mem i (rules.flips P s) ∙ t))

  turns_cell : (i : ℕ) → turns i ≡ true → same_cell cell.White (cell_at Black p i) ≡ true
  turns_cell i t =
      let P = position_of Black p in
      let h : has P cell.White i ≡ true = turns_other i t in
      let low : i < 64 = subst (λ n. i < n) (length-cells_of Black p) (counts.has_within P cell.White i h) in
      ap (same_cell cell.White) (sym (get_or-cells_of Black p i cell.Empty low)) ∙ counts.has_get_or P cell.White i cell.Empty h

  on_board : s < 64
  on_board = IsMove-on_board p s m

  was_empty : not (in_mask p.own s || in_mask p.opp s) ≡ true
  was_empty = empty_mask p s (moves_to_empty p s m)

  turned_count : ones (flips_of p s) ≡ count_below 64 turns
  unfolding flips_of turns
  turned_count = ones_where (λ i. mem i (rules.flips (position_of Black p) s))

  placed_apart : (i : ℕ) → (eqb i s && turns i) ≡ false
  placed_apart i =
      false_from_ne_true (eqb i s && turns i) (λ t.
      let h = and_parts (eqb i s) (turns i) t in
      both_ways (same_cell cell.White (cell_at Black p s)) (empty_not_white (in_mask p.own s) (in_mask p.opp s) was_empty)
      (turns_cell s (ap turns (sym (eqb-true i s h.0)) ∙ h.1)))

  own_apart : (i : ℕ) → (in_mask p.own i && (eqb i s || turns i)) ≡ false
  own_apart i =
      false_from_ne_true (in_mask p.own i && (eqb i s || turns i)) (λ t.
      let h = and_parts (in_mask p.own i) (eqb i s || turns i) t in
      elim (or_cases (eqb i s) (turns i) h.1) [
        | inl e ↦ both_ways (in_mask p.own s) (empty_not_own (in_mask p.own s) (in_mask p.opp s) was_empty) (ap (in_mask p.own) (sym (eqb-true i s e)) ∙ h.0)
        | inr u ↦ false≢true (subst (λ b. same_cell cell.White (cond b cell.Black (cond (in_mask p.opp i) cell.White cell.Empty)) ≡ true) h.0 (turns_cell i u))
      ])

  own_count : p.own < 2 ^ 64 → ones (play_of p s).opp ≡ ones p.own + ones (flips_of p s) + 1
  own_count fits =
      let r = play_of p s in
      let e : ones r.opp ≡ count_below 64 (λ i. in_mask p.own i || (eqb i s || turns i)) =
      ap ones (is_where r.opp (λ i. in_mask p.own i || (eqb i s || turns i)) (play_apart p s).opp_fits after_move)
      ∙ ones_where (λ i. in_mask p.own i || (eqb i s || turns i)) in
      let a = both_below 64 (in_mask p.own) (λ i. eqb i s || turns i) own_apart in
      let b = both_below 64 (λ i. eqb i s) turns placed_apart in
      let c = one_below s on_board in
      let d = ones_mask p.own fits in
      let f = turned_count in
      omega (arith, e, a, b, c, d, f)

  pub last_count : p.own < 2 ^ 64 → ones p.own + ones (flips_of p s) + 1 ≤ 64
  last_count fits = omega (arith, own_count fits, ones-le 64 (play_of p s).opp (play_apart p s).opp_fits)

  -- where nothing is empty after it, so much is the position worth
  pub last_score : (g : Scoring) → p.own < 2 ^ 64 → IsFullExcept p s → (n : ℕ)
      → n ≡ ones p.own + ones (flips_of p s) + 1 → value_of g p ≡ score_of g n (64 - n) 0
  unfolding final_of
  last_score g fits last n is =
      let r = play_of p s in
      let fine = play_apart p s in
      let e : count_by (λ i. not (in_mask r.own i || in_mask r.opp i)) squares ≡ 0 =
      count-squares (λ i. not (in_mask r.own i || in_mask r.opp i))
      ∙ none_below 64 (λ i. not (in_mask r.own i || in_mask r.opp i)) (λ i h. false_from_ne_true _ (λ t. full_after p s last i (has_empty Black r i h ∙ t))) in
      let o : count_by (in_mask r.opp) squares ≡ n = sym (ones_count r.opp fine.opp_fits) ∙ own_count fits ∙ sym is in
      let parts = partition (in_mask r.own) (in_mask r.opp) fine.apart in
      let w : count_by (in_mask r.own) squares ≡ 64 - n = omega (arith, parts, e, o) in
      let f : final_of g r ≡ score_of g (64 - n) n 0 = final-meaning g Black r fine ∙ (λ k. score_of g (w k) (o k) (e k)) in
      last_worth p s last g m ∙ ap neg_ℤ f ∙ score-turned g (64 - n) n 0

-- a disc turns something exactly where it is a move
pub turns_none : (p : PosView) (s : ℕ) → ones (flips_of p s) ≡ 0 → IsMove p s → ⊥
unfolding flips_of turns
turns_none p s e m =
    let P = position_of Black p in
    let t = first_turned (rules.flips P s) (is_move-from_IsMove p s m) in
    let h : has P cell.White t.0 ≡ true = turns_other p s m t.0 t.1 in
    let low : t.0 < 64 = subst (λ n. t.0 < n) (length-cells_of Black p) (counts.has_within P cell.White t.0 h) in
    both_ways (in_mask (mask_where (λ i. mem i (rules.flips P s))) t.0)
    (none_from_zero _ (zero_from_ones (mask_where (λ i. mem i (rules.flips P s))) e) t.0) (in_mask-where (λ i. mem i (rules.flips P s)) t.0 low ∙ t.1)

pub turns_some : (p : PosView) (s : ℕ) → 0 < ones (flips_of p s) → IsMove p s
unfolding flips_of ones
turns_some p s h =
    let P = position_of Black p in
    let f : ℕ → Bool = λ i. mem i (rules.flips P s) in
    let t = some_square (mask_where f) (where_lt f) (λ e. let z : ones (mask_where f) ≡ 0 = ap ones e in omega (arith, h, z)) in
    let low : t.0 < 64 =
    elim (cases_lt t.0 64) [ inl l ↦ l | inr g ↦ absurd (both_ways (in_mask (mask_where f) t.0) (in_mask-above (mask_where f) t.0 (where_lt f) g) t.1) ] in
    let m : rules.is_move P s ≡ true = not_empty (rules.flips P s) t.0 (sym (in_mask-where f t.0 low) ∙ t.1) in
    let b : s < 64 = subst (λ n. s < n) (length-cells_of Black p) (counts.has_within P cell.Empty s (move_empty P s m)) in
    IsMove-from p s b m
