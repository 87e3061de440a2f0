-- Masks built and taken apart square by square.
use Rattle.std.proofs.Common.{◌≡◌, ℕ, ◌+◌, ◌*◌, ◌%◌, ◌^◌, ◌<◌, Bool, true, false, cond, not, ◌&&◌, ◌||◌, eqb, refl, ap}
use Rattle.std.proofs.Common.{sym, ◌∙◌, arith, inl, inr, bit_and, bit_or, add-one}
use Rattle.std.specs.Int.{bit_not, w64}
use Rattle.std.proofs.lemmas.Bool.{cases_lt, both_ways}
use Rattle.std.proofs.lemmas.Nat.{one_shl, pow_below, or_shifted, or_comm}
use Rattle.othello_rules.specs.Masks.{in_mask}
use Rattle.othello_bits.proofs.Numbers.{number_below, number_lt}
use Rattle.othello_bits.proofs.Bits.{in_mask-and, in_mask-or, in_mask-not, in_mask-above, in_mask-pow}

without_at : (m k i : ℕ) (b : Bool) → in_mask m i ≡ b → m < 2 ^ 64 → k < 64 → (b && in_mask (bit_not w64 (2 ^ k)) i) ≡ (b && not (eqb k i))
without_at m k i false e hm hk = refl
without_at m k i true e hm hk =
    let low : i < 64 = elim (cases_lt i 64) [ inl l ↦ l | inr g ↦ absurd (both_ways _ (in_mask-above m i hm g) e) ] in
    in_mask-not (2 ^ k) i (pow_below k 64 hk) low ∙ ap not (in_mask-pow k i)

pub in_mask-without : (m k i : ℕ) → m < 2 ^ 64 → k < 64 → in_mask (bit_and m (bit_not w64 (1 * 2 ^ k % 2 ^ 64))) i ≡ (in_mask m i && not (eqb k i))
in_mask-without m k i hm hk = rw (one_shl k 64 hk, in_mask-and m (bit_not w64 (2 ^ k)) i) (without_at m k i (in_mask m i) refl hm hk)

pub in_mask-including : (m k i : ℕ) → k < 64 → in_mask (bit_or m (1 * 2 ^ k % 2 ^ 64)) i ≡ (in_mask m i || eqb k i)
in_mask-including m k i hk = rw (one_shl k 64 hk, in_mask-or m (2 ^ k) i, in_mask-pow k i) refl

pub add_member : (f : ℕ → Bool) (i : ℕ) → i < 64 → f i ≡ true → bit_or (number_below i f) (1 * 2 ^ i % 2 ^ 64) ≡ number_below (i + 1) f
unfolding number_below
add_member f i h e =
    rw (one_shl i 64 h, or_comm (number_below i f) (2 ^ i), add-one i)
    (ap (λ x. bit_or x (number_below i f)) one ∙ or_shifted 1 i (number_below i f) (number_lt i f) ∙ sym (ap (λ b. cond b 1 0 * 2 ^ i + number_below i f) e))
  where
    one : 2 ^ i ≡ 1 * 2 ^ i
    one = omega arith

pub add_other : (f : ℕ → Bool) (i : ℕ) → f i ≡ false → number_below i f ≡ number_below (i + 1) f
unfolding number_below
add_other f i e = rw (add-one i, e) (omega arith)

pub number_none : (f : ℕ → Bool) → 0 ≡ number_below 0 f
unfolding number_below
number_none f = refl
