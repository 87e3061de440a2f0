-- The number of a set of squares.
use Rattle.std.proofs.Common.{◌≡◌, ℕ, zero, suc, ◌+◌, ◌-◌, ◌*◌, ◌^◌, ◌<◌, Bool, true, false, cond, ◌&&◌, ◌||◌, eqb, ltb, refl, ap, sym, ◌∙◌, arith, inl, inr}
use Rattle.std.specs.Int.{bit_at}
use Rattle.std.specs.Int.Count.{ones}
use Rattle.std.proofs.lemmas.Bool.{cases_eq, false≢true, agree_below_at, ltb-true}
use Rattle.std.proofs.lemmas.Nat.{ones_cat}
use Rattle.std.proofs.lemmas.Nat.Bits.{bit_at-lt, bit_at_cat_low, bit_at_cat_high, same_from_bits_below}
use Rattle.std.proofs.Math.Nat.{pow-suc}
use Rattle.othello_rules.specs.Masks.{in_mask}

-- the number of a set of squares below n: the sum of 2 ^ i over its members i
unfoldable pub number_below : ℕ → (ℕ → Bool) → ℕ
number_below zero f = 0
number_below (suc n) f = cond (f n) 1 0 * 2 ^ n + number_below n f

-- how many squares below n are in the set
unfoldable pub count_below : ℕ → (ℕ → Bool) → ℕ
count_below zero f = 0
count_below (suc n) f = cond (f n) 1 0 + count_below n f

-- two sets that share no square
pub both_below : (n : ℕ) (f g : ℕ → Bool) → ((i : ℕ) → (f i && g i) ≡ false) → count_below n (λ i. f i || g i) ≡ count_below n f + count_below n g
unfolding count_below
both_below zero f g h = refl
both_below (suc n) f g h = by (count_below n (λ i. f i || g i)) (count_below n f) (count_below n g) (f n) (g n) (both_below n f g h) (h n)
  where
    by : (u x y : ℕ) (a b : Bool) → u ≡ x + y → (a && b) ≡ false → cond (a || b) 1 0 + u ≡ (cond a 1 0 + x) + (cond b 1 0 + y)
    by u x y true true e h = absurd (false≢true (sym h))
    by u x y true false e h = omega arith
    by u x y false true e h = omega arith
    by u x y false false e h = omega arith

bit_fits : (b : Bool) → cond b 1 0 < 2
bit_fits true = omega arith
bit_fits false = omega arith

with_bit : (n m b : ℕ) → b < 2 → m < 2 ^ n → b * 2 ^ n + m < 2 ^ suc n
with_bit n m zero h l = omega (arith, pow-suc 2 n)
with_bit n m (suc zero) h l = omega (arith, pow-suc 2 n)
with_bit n m (suc (suc b)) h l = absurd (omega arith)

pub number_lt : (n : ℕ) (f : ℕ → Bool) → number_below n f < 2 ^ n
unfolding number_below
number_lt zero f = omega arith
number_lt (suc n) f = with_bit n (number_below n f) (cond (f n) 1 0) (bit_fits (f n)) (number_lt n f)

bit_test : (b : Bool) → eqb (bit_at (cond b 1 0) 0) 1 ≡ b
bit_test true = refl
bit_test false = refl

pub in_mask-number : (n : ℕ) (f : ℕ → Bool) (i : ℕ) → i < n → in_mask (number_below n f) i ≡ f i
unfolding number_below in_mask
in_mask-number zero f i h = absurd (omega arith)
in_mask-number (suc n) f i h =
    elim (cases_eq i n) [
      | inl e ↦
          let z : i - n ≡ 0 = omega arith in
          ap (λ x. eqb x 1) (bit_at_cat_high (cond (f n) 1 0) n (number_below n f) i (number_lt n f) (omega arith) ∙ ap (bit_at (cond (f n) 1 0)) z)
          ∙ bit_test (f n) ∙ ap f (sym e)
      | inr o ↦
          let l : i < n = omega arith in
          ap (λ x. eqb x 1) (bit_at_cat_low (cond (f n) 1 0) n (number_below n f) i l) ∙ in_mask-number n f i l
    ]

bit_from_test : (x y : ℕ) → x < 2 → y < 2 → eqb x 1 ≡ eqb y 1 → x ≡ y
bit_from_test zero zero hx hy e = refl
bit_from_test zero (suc zero) hx hy e = absurd (false≢true e)
bit_from_test zero (suc (suc y)) hx hy e = absurd (omega arith)
bit_from_test (suc zero) zero hx hy e = absurd (false≢true (sym e))
bit_from_test (suc zero) (suc zero) hx hy e = refl
bit_from_test (suc zero) (suc (suc y)) hx hy e = absurd (omega arith)
bit_from_test (suc (suc x)) y hx hy e = absurd (omega arith)

-- masks whose squares agree are equal
pub same_mask : (a b : ℕ) → a < 2 ^ 64 → b < 2 ^ 64 → ((i : ℕ) → i < 64 → in_mask a i ≡ in_mask b i) → a ≡ b
unfolding in_mask
same_mask a b ha hb h = same_from_bits_below 64 a b ha hb (λ i l. bit_from_test _ _ (bit_at-lt a i) (bit_at-lt b i) (h i l))

pub is_number : (a : ℕ) (f : ℕ → Bool) → a < 2 ^ 64 → ((i : ℕ) → i < 64 → in_mask a i ≡ f i) → a ≡ number_below 64 f
is_number a f ha h = same_mask a (number_below 64 f) ha (number_lt 64 f) (λ i l. h i l ∙ sym (in_mask-number 64 f i l))

ones_bit : (b : Bool) → ones (cond b 1 0) ≡ cond b 1 0
unfolding ones
ones_bit true = refl
ones_bit false = refl

-- `count_ones`
pub ones_number : (n : ℕ) (f : ℕ → Bool) → ones (number_below n f) ≡ count_below n f
unfolding number_below count_below ones
ones_number zero f = refl
ones_number (suc n) f =
    ones_cat n (cond (f n) 1 0) (number_below n f) (number_lt n f) ∙ rw (ones_bit (f n), ones_number n f)

pub power_lt : (x : ℕ) → x < 64 → 2 ^ x < 2 ^ 64
power_lt x l = ltb-true (2 ^ x) (2 ^ 64) (agree_below_at (λ x. ltb (2 ^ x) (2 ^ 64)) (λ x. true) 64 x refl l)
