-- The bounds between which the driver of null windows looks for a value.
use Rattle.std.proofs.Common.{◌≡◌, ℤ, pos, negsuc, ◌-ℤ◌, ◌≤ℤ◌, ◌<ℤ◌, ◌<◌, ℕ, ◌+◌, ◌-◌, true, false, arith}
use borrow.Author.Differences.{up, down}
use lib.Signed.{lt_z, le_z}
use Rattle.std.specs.Int.{int_max, int_min}
use Rattle.std.proofs.lemmas.Int.{ints, clamps}
use Rattle.othello_rules.specs.Answer.{IsScore}
use Rattle.bound_table.specs.Range.{RangeView, IsRange}
use Rattle.endgame_search.specs.Windows.{IsBound, IsWindow, IsFailSoft, IsNullWindowScore}
use Rattle.endgame_search.proofs.WindowLemmas.{shown, shown_same, score_same}

-- if lower is above low, the lower end of the window, the value v is no less than lower; if upper is below high, the
-- upper end, v is no more than upper; both are scores
pub record IsBetween (low high v lower upper : ℤ) : Type 0 where
  pub below : low <ℤ lower → lower ≤ℤ v
  pub above : upper <ℤ high → v ≤ℤ upper
  pub lower_score : IsScore lower
  pub upper_score : IsScore upper

-- how far upper is above lower
abbrev pub gap : ℤ → ℤ → ℕ
gap lower upper = (up upper + down lower) - (up lower + down upper)

-- at first the ends of the window, but no more than the scores of a range that holds the value
begun : (low high v lower upper : ℤ) (i : RangeView) → IsWindow low high → IsRange i → (i.low ≤ℤ v) × (v ≤ℤ i.high)
    → lower ≡ int_max low i.low → upper ≡ int_min high i.high → IsBetween low high v lower upper
begun low high v lower upper i w range holds l u =
    let a = range.least in
    let b = range.ordered in
    let k = range.most in
    let c = w.0 in
    let d = w.1 in
    let e = w.2 in
    let f = holds.0 in
    let g = holds.1 in
    record {
      below = λ x. omega (arith, ints, clamps);
      above = λ x. omega (arith, ints, clamps);
      lower_score = record { low = omega (arith, ints, clamps); high = omega (arith, ints, clamps) };
      upper_score = record { low = omega (arith, ints, clamps); high = omega (arith, ints, clamps) };
    }

pub at_first : (low high v l h lower upper : ℤ) (i : RangeView) → IsWindow low high → IsRange i → (i.low ≤ℤ v) × (v ≤ℤ i.high)
    → l ≡ i.low → h ≡ i.high → lower ≡ int_max (shown low) (shown l) → upper ≡ int_min (shown high) (shown h)
    → IsBetween (shown low) (shown high) v (shown lower) (shown upper)
at_first low high v l h lower upper i w range holds is_low is_high raised' lowered' =
    let a = range.least in
    let b = range.ordered in
    let k = range.most in
    let c = w.0 in
    let d = w.1 in
    let e = w.2 in
    let x : shown low ≡ low = shown_same low c (omega (arith, ints)) in
    let y : shown high ≡ high = shown_same high (omega (arith, ints)) e in
    let z : shown l ≡ i.low = omega (arith, ints) in
    let n : shown h ≡ i.high = omega (arith, ints) in
    let m : shown lower ≡ int_max (shown low) i.low = omega (arith, ints, clamps, raised', z, x, a, b, k, c, d, e) in
    let o : shown upper ≡ int_min (shown high) i.high = omega (arith, ints, clamps, lowered', n, y, a, b, k, c, d, e) in
    begun (shown low) (shown high) v (shown lower) (shown upper) i
    (omega (arith, ints, x, c), omega (arith, ints, x, y, d), omega (arith, ints, y, e)) range holds m o

-- the bound asked lies between them, so that its score brings them closer
module _ (lower upper s m b : ℤ) (l : IsScore lower) (u : IsScore upper) (small : negsuc 127 ≤ℤ s) (great : s ≤ℤ pos 127) (open' : lt_z lower upper ≡ true)
    (is : m ≡ int_max s lower) (bound : b ≡ int_min (shown m) (shown (upper -ℤ pos 1))) where
  asked : (lower ≤ℤ shown b) × (shown b <ℤ upper)
  asked =
      let a = l.low in
      let c = l.high in
      let d = u.low in
      let e = u.high in
      let k : shown (upper -ℤ pos 1) ≡ upper -ℤ pos 1 = omega (arith, ints) in
      let n : shown m ≡ int_max s lower = omega (arith, ints, clamps) in
      let f : shown b ≡ int_min (int_max s lower) (upper -ℤ pos 1) = omega (arith, ints, clamps) in
      (omega (arith, ints, clamps), omega (arith, ints, clamps))

  pub asked_bound : IsBound (shown b)
  asked_bound =
      let a = l.low in
      let e = u.high in
      let k = asked.0 in
      let n = asked.1 in
      (omega (arith, ints), omega (arith, ints))

  pub less_raised : (r : ℤ) → lt_z (shown b) r ≡ true → gap r upper < gap lower upper
  less_raised r h = let k = asked.0 in omega (arith, ints)

  pub less_lowered : (r : ℤ) → lt_z (shown b) r ≡ false → gap lower r < gap lower upper
  less_lowered r h = let k = asked.1 in omega (arith, ints)

-- what a fail-soft score s of the null window at b tells
module _ (low high v lower upper b s : ℤ) (held : IsBetween low high v lower upper) (p : IsNullWindowScore (shown b) v s) where
  pub raised : lt_z (shown b) (shown s) ≡ true → IsBetween low high v (shown s) upper
  raised h =
      let e = score_same s p.least p.most in
      let l = p.least in
      let m = p.most in
      let k : s ≤ℤ v = p.above (omega (arith, ints)) in
      record {
        below = λ x. omega (arith, ints);
        above = held.above;
        lower_score = record { low = omega (arith, ints); high = omega (arith, ints) };
        upper_score = held.upper_score;
      }

  pub lowered : lt_z (shown b) (shown s) ≡ false → IsBetween low high v lower (shown s)
  lowered h =
      let e = score_same s p.least p.most in
      let l = p.least in
      let m = p.most in
      let k : v ≤ℤ s = p.below (omega (arith, ints)) in
      record {
        below = held.below;
        above = λ x. omega (arith, ints);
        lower_score = held.lower_score;
        upper_score = record { low = omega (arith, ints); high = omega (arith, ints) };
      }

-- where they meet one of them is a fail-soft score of the window
module _ (low high v lower upper : ℤ) (window : IsWindow low high)
    (held : IsBetween (shown low) (shown high) v lower upper) (met : lt_z lower upper ≡ false) where
  pub lower_fail_soft : le_z (shown high) lower ≡ true → IsFailSoft low high v lower
  lower_fail_soft h =
      let a = shown_same low window.0 (let d = window.1 in let e = window.2 in omega (arith, ints)) in
      let b = shown_same high (let c = window.0 in let d = window.1 in omega (arith, ints)) window.2 in
      record {
        below = λ x. absurd (omega (arith, ints));
        above = λ x. held.below (omega (arith, ints));
        least = held.lower_score.low;
        most = held.lower_score.high;
      }

  pub upper_fail_soft : le_z (shown high) lower ≡ false → IsFailSoft low high v upper
  upper_fail_soft h =
      let a = shown_same low window.0 (let d = window.1 in let e = window.2 in omega (arith, ints)) in
      let b = shown_same high (let c = window.0 in let d = window.1 in omega (arith, ints)) window.2 in
      record {
        below = λ x. held.above (omega (arith, ints));
        above = λ x. let k : lower ≤ℤ v = held.below (omega (arith, ints)) in omega (arith, ints);
        least = held.upper_score.low;
        most = held.upper_score.high;
      }
