-- Masks that are zero, and positions after a move.
use Rattle.std.proofs.Common.{◌≡◌, ℕ, zero, suc, cond, ◌+◌, ◌*◌, ◌%◌, ◌^◌, ◌<◌, Bool, true, false, not, ◌&&◌, ◌||◌, eqb}
use Rattle.std.proofs.Common.{List, [], ◌∷◌, refl, ap, sym, ◌∙◌, arith, bit_and, bit_or}
use Rattle.std.specs.Prelude.{◌==◌}
use Rattle.std.specs.List.{list_any, count_by}
use Rattle.std.specs.Int.{bit_not, w64}
use Rattle.std.specs.Int.Count.{ones}
use Rattle.std.proofs.lemmas.Bool.{false≢true, and_parts, eq-eqb, eqb-true}
use Rattle.std.proofs.lemmas.Nat.{or_lt, and_le_l, one_shl}
use Rattle.othello_rules.specs.Masks.{in_mask}
use Rattle.othello_bits.proofs.Numbers.{count_below, same_mask, is_number, ones_number}
use Rattle.othello_rules.specs.Board.{squares}
use Rattle.othello_rules.specs.Rules.{turned_on, is_nonempty}
use Rattle.othello_bits.specs.Shifts.{turns_any, is_turned, lines}
use Rattle.othello_bits.specs.Pos.{mem}
use Rattle.othello_bits.proofs.Bits.{in_mask-and, in_mask-or, in_mask-not, in_mask-zero, in_mask-pow, eqb_sym}

-- the mover's and the other's squares after a move on q, which is the other side's turn
abbrev pub own_after : (ℕ → Bool) → (ℕ → Bool) → ℕ → ℕ → Bool
own_after own opp q i = opp i && not (is_turned own opp q i)

abbrev pub opp_after : (ℕ → Bool) → (ℕ → Bool) → ℕ → ℕ → Bool
opp_after own opp q i = own i || ((i == q) || is_turned own opp q i)

pub zero_from_none : (m : ℕ) → m < 2 ^ 64 → ((q : ℕ) → q < 64 → in_mask m q ≡ false) → m ≡ 0
zero_from_none m h f = same_mask m 0 h (omega arith) (λ q l. f q l ∙ sym (in_mask-zero q))

pub some_of : (xs : List ℕ) → is_nonempty xs ≡ true → (i : ℕ) × (mem i xs ≡ true)
some_of [] e = absurd (false≢true e)
some_of (x ∷ xs) e = (x, ap (λ b. b || mem x xs) (eq-eqb x x refl))

pub not_empty : (xs : List ℕ) (i : ℕ) → mem i xs ≡ true → is_nonempty xs ≡ true
not_empty [] i e = absurd (false≢true e)
not_empty (x ∷ xs) i e = refl

not_or : (a b : Bool) → not (a || b) ≡ true → b ≡ false
not_or false false e = refl
not_or false true e = absurd (false≢true e)
not_or true b e = absurd (false≢true e)

pub move_free : (own opp : ℕ → Bool) (q : ℕ) → turns_any own opp q ≡ true → opp q ≡ false
move_free own opp q e = not_or (own q) (opp q) (and_parts (not (own q || opp q)) (list_any (λ met. is_nonempty (turned_on own opp met)) (lines q)) e).0

module _ (own opp flips q : ℕ) (hown : own < 2 ^ 64) (hopp : opp < 2 ^ 64) (hflips : flips < 2 ^ 64) (on_board : q < 64) where
  pub after_own : (i : ℕ) → i < 64 → in_mask (bit_and opp (bit_not w64 flips)) i ≡ (in_mask opp i && not (in_mask flips i))
  after_own i l = in_mask-and opp (bit_not w64 flips) i ∙ ap (λ b. in_mask opp i && b) (in_mask-not flips i hflips l)

  pub after_opp : (i : ℕ) → in_mask (bit_or own (bit_or (1 * 2 ^ q % 2 ^ 64) flips)) i ≡ (in_mask own i || (eqb i q || in_mask flips i))
  after_opp i = rw (one_shl q 64 on_board, in_mask-or own (bit_or (2 ^ q) flips) i, in_mask-or (2 ^ q) flips i, in_mask-pow q i, eqb_sym q i)

  keeps_apart : (o p f e : Bool) → (o && p) ≡ false → (e ≡ true → p ≡ false) → ((p && not f) && (o || (e || f))) ≡ false
  keeps_apart o false f e a h = refl
  keeps_apart true true f e a h = absurd (false≢true (sym a))
  keeps_apart false true true e a h = refl
  keeps_apart false true false true a h = absurd (false≢true (sym (h refl)))
  keeps_apart false true false false a h = refl

  pub after_apart : ((i : ℕ) → (in_mask own i && in_mask opp i) ≡ false) → in_mask opp q ≡ false
      → bit_and (bit_and opp (bit_not w64 flips)) (bit_or own (bit_or (1 * 2 ^ q % 2 ^ 64) flips)) ≡ 0
  after_apart apart free =
      zero_from_none _
      (omega (arith, and_le_l (bit_and opp (bit_not w64 flips)) (bit_or own (bit_or (1 * 2 ^ q % 2 ^ 64) flips)), and_le_l opp (bit_not w64 flips)))
      (λ i l. rw (in_mask-and (bit_and opp (bit_not w64 flips)) (bit_or own (bit_or (1 * 2 ^ q % 2 ^ 64) flips)) i, after_own i l, after_opp i)
      (keeps_apart (in_mask own i) (in_mask opp i) (in_mask flips i) (eqb i q) (apart i) (λ e. ap (in_mask opp) (eqb-true i q e) ∙ free)))

pub count-squares : (f : ℕ → Bool) → count_by f squares ≡ count_below 64 f
unfolding count_below squares
count-squares f = omega arith

pub free_count : (own opp : ℕ) → own < 2 ^ 64 → opp < 2 ^ 64
    → ones (bit_not w64 (bit_or own opp)) ≡ count_by (λ i. not (in_mask own i || in_mask opp i)) squares
free_count own opp hown hopp =
    let l = or_lt 64 own opp hown hopp in
    let e =
    is_number (bit_not w64 (bit_or own opp)) (λ i. not (in_mask own i || in_mask opp i)) (omega arith)
    (λ i h. in_mask-not (bit_or own opp) i l h ∙ ap not (in_mask-or own opp i)) in
    ap ones e ∙ ones_number 64 (λ i. not (in_mask own i || in_mask opp i)) ∙ sym (count-squares (λ i. not (in_mask own i || in_mask opp i)))

partition_below : (n : ℕ) (f g : ℕ → Bool) → ((i : ℕ) → (f i && g i) ≡ false) → count_below n f + count_below n g + count_below n (λ i. not (f i || g i)) ≡ n
unfolding count_below
partition_below zero f g h = refl
partition_below (suc n) f g h = by (count_below n f) (count_below n g) (count_below n (λ i. not (f i || g i))) (f n) (g n) (partition_below n f g h) (h n)
  where
    by : (x y z : ℕ) (a b : Bool) → x + y + z ≡ n → (a && b) ≡ false → (cond a 1 0 + x) + (cond b 1 0 + y) + (cond (not (a || b)) 1 0 + z) ≡ suc n
    by x y z true true e h = absurd (false≢true (sym h))
    by x y z true false e h = omega arith
    by x y z false true e h = omega arith
    by x y z false false e h = omega arith

pub ones_count : (m : ℕ) → m < 2 ^ 64 → ones m ≡ count_by (in_mask m) squares
ones_count m h = ap ones (is_number m (in_mask m) h (λ i l. refl)) ∙ ones_number 64 (in_mask m) ∙ sym (count-squares (in_mask m))

pub partition : (f g : ℕ → Bool) → ((i : ℕ) → (f i && g i) ≡ false) → count_by f squares + count_by g squares + count_by (λ i. not (f i || g i)) squares ≡ 64
partition f g h = omega (arith, count-squares f, count-squares g, count-squares (λ i. not (f i || g i)), partition_below 64 f g h)
