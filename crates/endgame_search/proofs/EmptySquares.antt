-- How many squares are empty: no fewer than there are moves.
use Rattle.std.proofs.Common.{◌≡◌, ◌≢◌, ℕ, zero, suc, ◌+◌, ◌<◌, ◌≤◌, ◌^◌, Bool, true, false, cond, not, ◌||◌, refl, ap, ◌∙◌, subst, inl, inr, arith}
use Rattle.std.specs.List.{count_by}
use Rattle.std.specs.Int.Count.{ones}
use Rattle.std.proofs.lemmas.Bool.{cases_eq, false≢true}
use Rattle.othello_rules.specs.declared.scoring.Scoring.TheVariants.{Winner}
use Rattle.othello_rules.specs.declared.discs.Side.TheVariants.{Black}
use Rattle.othello_rules.specs.Board.{squares}
use Rattle.othello_rules.specs.Masks.{in_mask}
use Rattle.othello_bits.specs.Pos.{PosView, moves_of, empties_of}
use Rattle.othello_bits.proofs.CountMeaning.{count-empty}
use Rattle.othello_bits.proofs.GameLaws.{value_reached, empties_positive}
use Rattle.othello_bits.proofs.Numbers.{count_below, is_number, ones_number}
use Rattle.endgame_search.proofs.LastSquareLemmas.{moves_to_empty, empty_mask}

more_below : (n : ℕ) (f g : ℕ → Bool) → ((i : ℕ) → f i ≡ true → g i ≡ true) → count_below n f ≤ count_below n g
unfolding count_below
more_below zero f g h = omega arith
more_below (suc n) f g h = by (count_below n f) (count_below n g) (f n) (g n) (more_below n f g h) (h n)
  where
    by : (x y : ℕ) (a b : Bool) → x ≤ y → (a ≡ true → b ≡ true) → cond a 1 0 + x ≤ cond b 1 0 + y
    by x y true true l i = omega (arith, l)
    by x y true false l i = absurd (false≢true (i refl))
    by x y false true l i = omega (arith, l)
    by x y false false l i = omega (arith, l)

count-squares : (f : ℕ → Bool) → count_by f squares ≡ count_below 64 f
unfolding count_below squares
count-squares f = omega arith

pub few_moves : (p : PosView) (m : ℕ) → m ≡ moves_of p → m < 2 ^ 64 → ones m ≤ empties_of p
unfolding empties_of
few_moves p m is fits =
    let empty : ℕ → Bool = λ i. not (in_mask p.own i || in_mask p.opp i) in
    let a : ones m ≡ count_below 64 (in_mask m) = ap ones (is_number m (in_mask m) fits (λ i l. refl)) ∙ ones_number 64 (in_mask m) in
    let b : empties_of p ≡ count_below 64 empty = count-empty Black p ∙ count-squares empty in
    let c = more_below 64 (in_mask m) empty (λ i h. empty_mask p i (moves_to_empty p i (subst (λ n. in_mask n i ≡ true) is h))) in
    omega (arith, a, b, c)

pub some_empty : (p : PosView) → moves_of p ≢ 0 → 1 ≤ empties_of p
some_empty p some = let r = value_reached Winner p some in omega (arith, empties_positive p r.0 r.1)

-- a mask of some squares
pub some_square_left : (m n : ℕ) → ones m ≡ n → 0 < n → 0 < m
unfolding ones
some_square_left m n e h =
    elim (cases_eq m 0) [
      | inl z ↦ let k : ones m ≡ 0 = ap ones z in absurd (omega (arith, e, k, h))
      | inr d ↦ omega (arith, d)
    ]
