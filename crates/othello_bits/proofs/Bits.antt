-- Bit i of what the operations on masks give.
use Rattle.std.proofs.Common.{◌≡◌, ℕ, zero, suc, ◌+◌, ◌-◌, ◌*◌, ◌/◌, ◌%◌, ◌^◌, ◌<◌, ◌≤◌, min, max, Bool, true, false}
use Rattle.std.proofs.Common.{◌&&◌, ◌||◌, eqb, leb, ltb, bit_and, bit_or, refl, ap, sym, ◌∙◌, arith, inl, inr}
use Rattle.std.specs.Prelude.{not}
use Rattle.std.specs.Int.{bit_at, bit_not, w64}
use Rattle.std.proofs.lemmas.Nat.{shr-shr, and_mask, pow_pos, one_shl}
use Rattle.std.proofs.Math.Bool.{and-true, and-false}
use Rattle.std.proofs.Math.Nat.{add_comm}
use Rattle.std.proofs.lemmas.Nat.Bits.{bit_at-lt, bit_at_and, bit_at_or, bit_at_not, bit_at_ones, bit_at_cat_low}
use Rattle.std.proofs.lemmas.Nat.Bits.{bit_at_cat_high, bit_at-zero, bit_at_above, bit_at-pow_same, bit_at-pow_other}
use Rattle.std.proofs.lemmas.Nat.Bits.{and_pow, bit_at-trailing_zeros}
use Rattle.std.proofs.lemmas.Bool.{cases_eq, eq-eqb, ne_eqb, not-true, not-false}
use Rattle.std.proofs.lemmas.Bool.Decides.{nat_tests}
use Rattle.othello_rules.specs.Masks.{in_mask}

min_test : (x y : ℕ) → x < 2 → y < 2 → eqb (min x y) 1 ≡ (eqb x 1 && eqb y 1)
min_test zero zero hx hy = refl
min_test zero (suc zero) hx hy = refl
min_test zero (suc (suc y)) hx hy = absurd (omega arith)
min_test (suc zero) zero hx hy = refl
min_test (suc zero) (suc zero) hx hy = refl
min_test (suc zero) (suc (suc y)) hx hy = absurd (omega arith)
min_test (suc (suc x)) y hx hy = absurd (omega arith)

max_test : (x y : ℕ) → x < 2 → y < 2 → eqb (max x y) 1 ≡ (eqb x 1 || eqb y 1)
max_test zero zero hx hy = refl
max_test zero (suc zero) hx hy = refl
max_test zero (suc (suc y)) hx hy = absurd (omega arith)
max_test (suc zero) zero hx hy = refl
max_test (suc zero) (suc zero) hx hy = refl
max_test (suc zero) (suc (suc y)) hx hy = absurd (omega arith)
max_test (suc (suc x)) y hx hy = absurd (omega arith)

not_test : (x : ℕ) → x < 2 → eqb (1 - x) 1 ≡ not (eqb x 1)
not_test zero hx = refl
not_test (suc zero) hx = refl
not_test (suc (suc x)) hx = absurd (omega arith)

below : (n w : ℕ) → n % 2 ^ w < 2 ^ w
below n w = omega (arith, pow_pos w)

pub in_mask-and : (a b i : ℕ) → in_mask (bit_and a b) i ≡ (in_mask a i && in_mask b i)
unfolding in_mask
in_mask-and a b i = ap (λ x. eqb x 1) (bit_at_and a b i) ∙ min_test _ _ (bit_at-lt a i) (bit_at-lt b i)

pub in_mask-or : (a b i : ℕ) → in_mask (bit_or a b) i ≡ (in_mask a i || in_mask b i)
unfolding in_mask
in_mask-or a b i = ap (λ x. eqb x 1) (bit_at_or a b i) ∙ max_test _ _ (bit_at-lt a i) (bit_at-lt b i)

pub in_mask-not : (a i : ℕ) → a < 2 ^ 64 → i < 64 → in_mask (bit_not w64 a) i ≡ not (in_mask a i)
unfolding in_mask
in_mask-not a i ha hi = ap (λ x. eqb x 1) (bit_at_not w64 a i ha hi) ∙ not_test _ (bit_at-lt a i)

pub in_mask-shr : (a k i : ℕ) → in_mask (a / 2 ^ k) i ≡ in_mask a (i + k)
unfolding in_mask
in_mask-shr a k i = ap (λ x. eqb (x % 2) 1) (shr-shr a k i) ∙ ap (λ j. eqb (a / 2 ^ j % 2) 1) (add_comm k i)

bit_at_mod : (n w i : ℕ) → i < w → bit_at (n % 2 ^ w) i ≡ bit_at n i
bit_at_mod n w i h =
    ap (λ x. bit_at x i) (sym (and_mask n w)) ∙ bit_at_and n (2 ^ w - 1) i ∙ ap (min (bit_at n i)) (bit_at_ones w i h) ∙ omega (arith, bit_at-lt n i)

shl_le : (a k i : ℕ) → k ≤ i → bit_at (a * 2 ^ k) i ≡ bit_at a (i - k)
shl_le a k i h =
    let e : a * 2 ^ k ≡ a * 2 ^ k + 0 = omega arith in
    ap (λ x. bit_at x i) e ∙ bit_at_cat_high a k 0 i (omega (arith, pow_pos k)) h

shl_gt : (a k i : ℕ) → i < k → bit_at (a * 2 ^ k) i ≡ 0
shl_gt a k i h =
    let e : a * 2 ^ k ≡ a * 2 ^ k + 0 = omega arith in
    ap (λ x. bit_at x i) e ∙ bit_at_cat_low a k 0 i h ∙ bit_at-zero i

shl_at : (a k i : ℕ) (b : Bool) → leb k i ≡ b → eqb (bit_at (a * 2 ^ k) i) 1 ≡ (b && eqb (bit_at a (i - k)) 1)
shl_at a k i true e = ap (λ x. eqb x 1) (shl_le a k i (grind (arith, nat_tests)))
shl_at a k i false e = ap (λ x. eqb x 1) (shl_gt a k i (grind (arith, nat_tests)))

pub in_mask-above : (a i : ℕ) → a < 2 ^ 64 → 64 ≤ i → in_mask a i ≡ false
unfolding in_mask
in_mask-above a i ha hi = ap (λ x. eqb x 1) (bit_at_above a 64 i ha hi)

pub in_mask-shl_low : (f k i : ℕ) → i < 64 → in_mask (f * 2 ^ k % 2 ^ 64) i ≡ (leb k i && in_mask f (i - k))
unfolding in_mask
in_mask-shl_low f k i h = ap (λ x. eqb x 1) (bit_at_mod (f * 2 ^ k) 64 i h) ∙ shl_at f k i (leb k i) refl

-- a shift moves each bit, and drops those that leave the 64
shl_within : (f k i : ℕ) (b : Bool) → ltb i 64 ≡ b → in_mask (f * 2 ^ k % 2 ^ 64) i ≡ ((leb k i && b) && in_mask f (i - k))
shl_within f k i true e = in_mask-shl_low f k i (grind (arith, nat_tests)) ∙ ap (λ b. b && in_mask f (i - k)) (sym (and-true (leb k i)))
shl_within f k i false e =
    in_mask-above (f * 2 ^ k % 2 ^ 64) i (below (f * 2 ^ k) 64) (grind (arith, nat_tests)) ∙ ap (λ b. b && in_mask f (i - k)) (sym (and-false (leb k i)))

pub in_mask-shl : (f k i : ℕ) → in_mask (f * 2 ^ k % 2 ^ 64) i ≡ ((leb k i && ltb i 64) && in_mask f (i - k))
in_mask-shl f k i = shl_within f k i (ltb i 64) refl

down_at : (f k i : ℕ) (b : Bool) → ltb (i + k) 64 ≡ b → f < 2 ^ 64 → in_mask f (i + k) ≡ (b && in_mask f (i + k))
down_at f k i true e hf = refl
down_at f k i false e hf = in_mask-above f (i + k) hf (grind (arith, nat_tests))

pub in_mask-shr_below : (f k i : ℕ) → f < 2 ^ 64 → in_mask (f / 2 ^ k) i ≡ (ltb (i + k) 64 && in_mask f (i + k))
in_mask-shr_below f k i hf = in_mask-shr f k i ∙ down_at f k i (ltb (i + k) 64) refl hf

pub in_mask-zero : (i : ℕ) → in_mask 0 i ≡ false
unfolding in_mask
in_mask-zero i = ap (λ x. eqb x 1) (bit_at-zero i)

pub in_mask-pow : (k i : ℕ) → in_mask (2 ^ k) i ≡ eqb k i
unfolding in_mask
in_mask-pow k i =
    elim (cases_eq k i) [
      | inl e ↦ rw e (ap (λ x. eqb x 1) (bit_at-pow_same i) ∙ sym (eq-eqb i i refl))
      | inr n ↦ ap (λ x. eqb x 1) (bit_at-pow_other k i (λ e. n (sym e))) ∙ sym (ne_eqb k i n)
    ]

-- the test `n & (1 << k) != 0`
in_mask-test : (n k : ℕ) → eqb (bit_and n (2 ^ k)) 0 ≡ not (in_mask n k)
unfolding in_mask
in_mask-test n k = rw (and_pow n k) (by_bit (bit_at n k) (bit_at-lt n k))
  where
    by_bit : (b : ℕ) → b < 2 → eqb (b * 2 ^ k) 0 ≡ not (eqb b 1)
    by_bit zero l = eq-eqb (0 * 2 ^ k) 0 (omega arith)
    by_bit (suc zero) l = ne_eqb (1 * 2 ^ k) 0 (λ e. absurd (omega (arith, pow_pos k)))
    by_bit (suc (suc b)) l = absurd (omega arith)

pub hit : (n k : ℕ) → k < 64 → (bit_and n (1 * 2 ^ k % 2 ^ 64) ≡ 0 → ⊥) → in_mask n k ≡ true
hit n k l h =
    let e : bit_and n (1 * 2 ^ k % 2 ^ 64) ≡ bit_and n (2 ^ k) = ap (bit_and n) (one_shl k 64 l) in
    not-false (in_mask n k) (sym (in_mask-test n k) ∙ ne_eqb (bit_and n (2 ^ k)) 0 (λ z. h (e ∙ z)))

pub miss : (n k : ℕ) → k < 64 → bit_and n (1 * 2 ^ k % 2 ^ 64) ≡ 0 → in_mask n k ≡ false
miss n k l h =
    let e : bit_and n (1 * 2 ^ k % 2 ^ 64) ≡ bit_and n (2 ^ k) = ap (bit_and n) (one_shl k 64 l) in
    not-true (in_mask n k) (sym (in_mask-test n k) ∙ eq-eqb (bit_and n (2 ^ k)) 0 (sym e ∙ h))

pub none_from_zero : (m : ℕ) → m ≡ 0 → (q : ℕ) → in_mask m q ≡ false
none_from_zero m e q = ap (λ x. in_mask x q) e ∙ in_mask-zero q

-- a mask that is not 0 has a square
pub some_square : (m : ℕ) → m < 2 ^ 64 → (m ≡ 0 → ⊥) → (i : ℕ) × (in_mask m i ≡ true)
unfolding in_mask
some_square m h n =
    let z = bit_at-trailing_zeros w64 m (omega arith) h in
    (_, ap (λ x. eqb x 1) z.1)

pub empty_meet : (own opp : ℕ) → bit_and own opp ≡ 0 → (i : ℕ) → (in_mask own i && in_mask opp i) ≡ false
empty_meet own opp e i = sym (in_mask-and own opp i) ∙ none_from_zero (bit_and own opp) e i

pub eqb_sym : (q i : ℕ) → eqb q i ≡ eqb i q
eqb_sym q i = elim (cases_eq q i) [ inl e ↦ eq-eqb q i e ∙ sym (eq-eqb i q (sym e)) | inr n ↦ ne_eqb q i n ∙ sym (ne_eqb i q (λ e. n (sym e))) ]
