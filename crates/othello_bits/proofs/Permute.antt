-- Permutations of bits by steps.
use Rattle.std.proofs.Common.{◌≡◌, ℕ, zero, suc, ◌+◌, ◌-◌, ◌*◌, ◌/◌, ◌%◌, ◌^◌, ◌<◌, Bool, true, false, cond, not, ◌&&◌}
use Rattle.std.proofs.Common.{◌||◌, eqb, leb, ltb, refl, ap, ◌∙◌, arith, bit_and, bit_or, bit_xor}
use Rattle.std.specs.Bool.{beq}
use Rattle.std.proofs.lemmas.Bool.{false≢true, and_parts, eqb-true, ltb-true, leb-true, agree_below, agree_below_at}
use Rattle.std.proofs.lemmas.Nat.Bits.{bit_at_xor, bit_at-lt}
use Rattle.othello_rules.specs.Masks.{in_mask}
use Rattle.othello_bits.specs.Exchanges.{exchange_source, exchanges, swap_source, swaps}
use Rattle.othello_bits.proofs.Bits.{in_mask-and, in_mask-or, in_mask-shr, in_mask-shl_low}

abbrev differ : Bool → Bool → Bool
differ true b = not b
differ false b = b

xor_test : (x y : ℕ) → x < 2 → y < 2 → eqb ((x + y) % 2) 1 ≡ differ (eqb x 1) (eqb y 1)
xor_test zero zero hx hy = refl
xor_test zero (suc zero) hx hy = refl
xor_test zero (suc (suc y)) hx hy = absurd (omega arith)
xor_test (suc zero) zero hx hy = refl
xor_test (suc zero) (suc zero) hx hy = refl
xor_test (suc zero) (suc (suc y)) hx hy = absurd (omega arith)
xor_test (suc (suc x)) y hx hy = absurd (omega arith)

in_mask-xor : (a b i : ℕ) → in_mask (bit_xor a b) i ≡ differ (in_mask a i) (in_mask b i)
unfolding in_mask
in_mask-xor a b i = ap (λ x. eqb x 1) (bit_at_xor a b i) ∙ xor_test _ _ (bit_at-lt a i) (bit_at-lt b i)

exchange_bit : (b : ℕ) (k i : ℕ) (m l n : Bool) → beq m (not (l && n)) ≡ true
    → ((in_mask b (i + k) && m) || (l && (in_mask b (i - k) && n))) ≡ in_mask b (cond m (i + k) (i - k))
exchange_bit b k i true true true e = absurd (false≢true e)
exchange_bit b k i true true false e = by (in_mask b (i + k)) (in_mask b (i - k))
  where
    by : (x y : Bool) → ((x && true) || (y && false)) ≡ x
    by true y = refl
    by false true = refl
    by false false = refl
exchange_bit b k i true false n e = by (in_mask b (i + k))
  where
    by : (x : Bool) → ((x && true) || false) ≡ x
    by true = refl
    by false = refl
exchange_bit b k i false true true e = by (in_mask b (i + k)) (in_mask b (i - k))
  where
    by : (x y : Bool) → ((x && false) || (y && true)) ≡ y
    by true true = refl
    by true false = refl
    by false true = refl
    by false false = refl
exchange_bit b k i false true false e = absurd (false≢true e)
exchange_bit b k i false false n e = absurd (false≢true e)

pub exchange_at : (b m k i : ℕ) → i < 64 → exchanges m k i ≡ true
    → in_mask (bit_or (bit_and (b / 2 ^ k) m) (bit_and b m * 2 ^ k % 2 ^ 64)) i ≡ in_mask b (exchange_source m k i)
unfolding exchange_source exchanges
exchange_at b m k i h e =
    rw (
      in_mask-or (bit_and (b / 2 ^ k) m) (bit_and b m * 2 ^ k % 2 ^ 64) i,
      in_mask-and (b / 2 ^ k) m i,
      in_mask-shr b k i,
      in_mask-shl_low (bit_and b m) k i h,
      in_mask-and b m (i - k),
    )
    (exchange_bit b k i (in_mask m i) (leb k i) (in_mask m (i - k)) e)

-- the step by differences
swap_bit : (b : ℕ → Bool) (k i : ℕ) (m l n : Bool) → leb k i ≡ l → not (m && (l && n)) ≡ true
    → differ (differ (b i) (differ (b i) (b (i + k)) && m)) (l && (differ (b (i - k)) (b (i - k + k)) && n)) ≡ b (cond m (i + k) (cond (l && n) (i - k) i))
swap_bit b k i true true true q e = absurd (false≢true e)
swap_bit b k i true true false q e = by (b i) (b (i + k)) (differ (b (i - k)) (b (i - k + k)))
  where
    by : (x y z : Bool) → differ (differ x (differ x y && true)) (z && false) ≡ y
    by true true true = refl
    by true true false = refl
    by true false true = refl
    by true false false = refl
    by false true true = refl
    by false true false = refl
    by false false true = refl
    by false false false = refl
swap_bit b k i true false n q e = by (b i) (b (i + k))
  where
    by : (x y : Bool) → differ (differ x (differ x y && true)) false ≡ y
    by true true = refl
    by true false = refl
    by false true = refl
    by false false = refl
swap_bit b k i false true true q e =
    let le = leb-true k i q in
    let back : i - k + k ≡ i = omega arith in
    rw back (by (b i) (b (i + k)) (b (i - k)))
  where
    by : (x y z : Bool) → differ (differ x (differ x y && false)) (differ z x && true) ≡ z
    by true true true = refl
    by true true false = refl
    by true false true = refl
    by true false false = refl
    by false true true = refl
    by false true false = refl
    by false false true = refl
    by false false false = refl
swap_bit b k i false true false q e = by (b i) (b (i + k)) (differ (b (i - k)) (b (i - k + k)))
  where
    by : (x y z : Bool) → differ (differ x (differ x y && false)) (z && false) ≡ x
    by true true true = refl
    by true true false = refl
    by true false true = refl
    by true false false = refl
    by false true true = refl
    by false true false = refl
    by false false true = refl
    by false false false = refl
swap_bit b k i false false n q e = by (b i) (b (i + k))
  where
    by : (x y : Bool) → differ (differ x (differ x y && false)) false ≡ x
    by true true = refl
    by true false = refl
    by false true = refl
    by false false = refl

abbrev difference : ℕ → ℕ → ℕ → ℕ
difference b m k = bit_and (bit_xor b (b / 2 ^ k)) m

difference_at : (b m k i : ℕ) → in_mask (difference b m k) i ≡ (differ (in_mask b i) (in_mask b (i + k)) && in_mask m i)
difference_at b m k i = rw (in_mask-and (bit_xor b (b / 2 ^ k)) m i, in_mask-xor b (b / 2 ^ k) i, in_mask-shr b k i)

pub swap_at : (b m k i : ℕ) → i < 64 → swaps m k i ≡ true
    → in_mask (bit_xor (bit_xor b (difference b m k)) (difference b m k * 2 ^ k % 2 ^ 64)) i ≡ in_mask b (swap_source m k i)
unfolding swap_source swaps
swap_at b m k i h e =
    rw (
      in_mask-xor (bit_xor b (difference b m k)) (difference b m k * 2 ^ k % 2 ^ 64) i,
      in_mask-xor b (difference b m k) i,
      in_mask-shl_low (difference b m k) k i h,
      difference_at b m k i,
      difference_at b m k (i - k),
    )
    (swap_bit (in_mask b) k i (in_mask m i) (leb k i) (in_mask m (i - k)) refl e)

-- three steps
abbrev pub three_steps : (ok1 ok2 ok3 : ℕ → Bool) (s1 s2 s3 to : ℕ → ℕ) → ℕ → Bool
three_steps ok1 ok2 ok3 s1 s2 s3 to i = ok3 i && (ltb (s3 i) 64 && (ok2 (s3 i) && (ltb (s2 (s3 i)) 64 && (ok1 (s2 (s3 i)) && eqb (s1 (s2 (s3 i))) (to i)))))

pub by_three : (b r1 r2 r3 : ℕ) (ok1 ok2 ok3 : ℕ → Bool) (s1 s2 s3 to : ℕ → ℕ)
    → ((i : ℕ) → i < 64 → ok1 i ≡ true → in_mask r1 i ≡ in_mask b (s1 i))
    → ((i : ℕ) → i < 64 → ok2 i ≡ true → in_mask r2 i ≡ in_mask r1 (s2 i))
    → ((i : ℕ) → i < 64 → ok3 i ≡ true → in_mask r3 i ≡ in_mask r2 (s3 i))
    → agree_below (three_steps ok1 ok2 ok3 s1 s2 s3 to) (λ i. true) 64 ≡ true
    → (i : ℕ) → i < 64 → in_mask r3 i ≡ in_mask b (to i)
by_three b r1 r2 r3 ok1 ok2 ok3 s1 s2 s3 to e1 e2 e3 all i h =
    let t : three_steps ok1 ok2 ok3 s1 s2 s3 to i ≡ true = agree_below_at (three_steps ok1 ok2 ok3 s1 s2 s3 to) (λ i. true) 64 i all h in
    let a = and_parts (ok3 i) _ t in
    let c = and_parts (ltb (s3 i) 64) _ a.1 in
    let d = and_parts (ok2 (s3 i)) _ c.1 in
    let f = and_parts (ltb (s2 (s3 i)) 64) _ d.1 in
    let g = and_parts (ok1 (s2 (s3 i))) _ f.1 in
    e3 i h a.0 ∙ e2 (s3 i) (ltb-true _ 64 c.0) d.0 ∙ e1 (s2 (s3 i)) (ltb-true _ 64 f.0) g.0 ∙ ap (in_mask b) (eqb-true _ (to i) g.1)

-- one permutation after another
pub by_two : (b r1 r2 : ℕ) (s1 s2 to : ℕ → ℕ)
    → ((i : ℕ) → i < 64 → in_mask r1 i ≡ in_mask b (s1 i))
    → ((i : ℕ) → i < 64 → in_mask r2 i ≡ in_mask r1 (s2 i))
    → agree_below (λ i. ltb (s2 i) 64 && eqb (s1 (s2 i)) (to i)) (λ i. true) 64 ≡ true
    → (i : ℕ) → i < 64 → in_mask r2 i ≡ in_mask b (to i)
by_two b r1 r2 s1 s2 to e1 e2 all i h =
    let t = and_parts (ltb (s2 i) 64) _ (agree_below_at (λ i. ltb (s2 i) 64 && eqb (s1 (s2 i)) (to i)) (λ i. true) 64 i all h) in
    e2 i h ∙ e1 (s2 i) (ltb-true _ 64 t.0) ∙ ap (in_mask b) (eqb-true _ (to i) t.1)
