-- The range of the value that a score from a search of a window proves, and a range cut to the scores of a scoring.
use Rattle.std.proofs.Common.{◌≡◌, ℤ, pos, negsuc, ◌-ℤ◌, ◌≤ℤ◌, ◌<ℤ◌, sym, subst, arith}
use Rattle.std.specs.Int.{int_max, int_min}
use Rattle.std.proofs.lemmas.Int.{ints, clamps, by_lt_z}
use Rattle.othello_rules.specs.Answer.{IsScore}
use Rattle.bound_table.specs.Range.{RangeView, range_view, IsRange}
use Rattle.endgame_search.specs.Windows.{IsFailSoft, IsWithin}
use Rattle.endgame_search.proofs.WindowLemmas.{shown}

within : (v a b : ℤ) (i : RangeView) → i ≡ range_view a b → a ≤ℤ v → v ≤ℤ b → (i.low ≤ℤ v) × (v ≤ℤ i.high)
within v a b i e l m = subst (λ (j : RangeView). (j.low ≤ℤ v) × (v ≤ℤ j.high)) (sym e) (l, m)

pub told_true : (low high v s : ℤ) (i : RangeView) → IsFailSoft low high v s → IsScore v
    → (s ≤ℤ low → i ≡ range_view (negsuc 63) s) → (low <ℤ s → high ≤ℤ s → i ≡ range_view s (pos 64)) → (low <ℤ s → s <ℤ high → i ≡ range_view s s)
    → low <ℤ high → (i.low ≤ℤ v) × (v ≤ℤ i.high)
told_true low high v s i p score at_most at_least exact window =
    by_lt_z low s
    (λ x. by_lt_z s high
    (λ y. within v s s i (exact x y) (p.above x) (p.below y))
    (λ y. within v s (pos 64) i (at_least x y) (p.above x) score.high))
    (λ x. within v (negsuc 63) s i (at_most x) score.low (p.below (omega (arith, ints))))

-- a range from l to h holds the value v, which is from minus m to m: so does its part from minus m to m
module _ (l h m v a b : ℤ) (i : RangeView) (low : l ≡ i.low) (high : h ≡ i.high) (range : IsRange i) (holds : (i.low ≤ℤ v) × (v ≤ℤ i.high))
    (some : pos 1 ≤ℤ m) (most : m ≤ℤ pos 64) (score : IsWithin m v)
    (is_low : a ≡ int_max (shown l) (shown (pos 0 -ℤ shown m))) (is_high : b ≡ int_min (shown h) (shown m)) where
  cut_low : (negsuc 63 ≤ℤ shown a) × (shown a ≤ℤ v)
  cut_low =
      let r = range.least in
      let s = holds.0 in
      let t = score.0 in
      let u = score.1 in
      (omega (arith, ints, clamps), omega (arith, ints, clamps))

  cut_high : (v ≤ℤ shown b) × (shown b ≤ℤ pos 64)
  cut_high =
      let r = range.most in
      let s = holds.1 in
      let t = score.0 in
      let u = score.1 in
      (omega (arith, ints, clamps), omega (arith, ints, clamps))

  pub cut_range : IsRange (range_view (shown a) (shown b))
  cut_range =
      let x = cut_low in
      let y = cut_high in
      let n = x.1 in
      let o = y.0 in
      record { least = x.0; ordered = omega (arith, ints, n, o); most = y.1 }

  pub cut_holds : (j : RangeView) → j ≡ range_view (shown a) (shown b) → (j.low ≤ℤ v) × (v ≤ℤ j.high)
  cut_holds j e = within v (shown a) (shown b) j e cut_low.1 cut_high.0
