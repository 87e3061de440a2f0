-- Null windows by their lower end, the bound b.
use Rattle.std.proofs.Common.{◌≡◌, ℤ, pos, negsuc, neg_ℤ, ◌+ℤ◌, ◌-ℤ◌, ◌≤ℤ◌, true, false, sym, refl, ◌∙◌, subst, arith}
use lib.Signed.{lt_z}
use Rattle.std.specs.Int.{int_max}
use Rattle.std.proofs.lemmas.Int.{ints, clamps}
use Rattle.othello_rules.specs.Answer.{IsScore}
use Rattle.endgame_search.specs.Windows.{IsBound, IsWindow, IsFailSoft, IsNullWindowScore}
use Rattle.endgame_search.proofs.WindowLemmas.{shown, shown_same, recast, recast_window}

-- the bound as code shows it, its upper end, and the bound that the other side sees
module _ (b : ℤ) (bound : IsBound b) where
  pub bound_same : shown b ≡ b
  bound_same = let l = bound.0 in let m = bound.1 in shown_same b l (omega (arith, ints))

  upper_same : shown (shown b +ℤ pos 1) ≡ b +ℤ pos 1
  upper_same = let l = bound.0 in let m = bound.1 in omega (arith, ints)

  other_same : shown (negsuc 0 -ℤ shown b) ≡ negsuc 0 -ℤ b
  other_same = let l = bound.0 in let m = bound.1 in omega (arith, ints)

  pub shown_bound : IsBound (shown b)
  shown_bound = subst IsBound (sym bound_same) bound

  pub other_bound : IsBound (shown (negsuc 0 -ℤ shown b))
  other_bound = let e = other_same in let l = bound.0 in let m = bound.1 in (omega (arith, ints), omega (arith, ints))

  null_ends : IsWindow b (b +ℤ pos 1)
  null_ends = let l = bound.0 in let m = bound.1 in (omega (arith, ints), omega (arith, ints), omega (arith, ints))

  pub stored_window : IsWindow (shown b) (shown (shown b +ℤ pos 1))
  stored_window = recast_window b (b +ℤ pos 1) _ _ (sym bound_same) (sym upper_same) null_ends

  pub same_fail_soft : (v r : ℤ) → IsNullWindowScore (shown b) v r → IsNullWindowScore b v (shown r)
  same_fail_soft v r p =
      recast _ _ b (b +ℤ pos 1) v r _ bound_same (λ k. bound_same k +ℤ pos 1)
      (sym (shown_same r (let l = p.least in omega (arith, ints)) (let m = p.most in omega (arith, ints)))) p

  -- a score as it is stored
  pub stored_fail_soft : (v s : ℤ) → IsNullWindowScore b v s → IsFailSoft (shown b) (shown (shown b +ℤ pos 1)) v s
  stored_fail_soft v s p = recast b (b +ℤ pos 1) _ _ v s s (sym bound_same) (sym upper_same) refl p

-- a score r of the other side's, by the bound c that it sees
turned_plain : (b c w r : ℤ) → c ≡ negsuc 0 -ℤ b → IsNullWindowScore c w r → IsNullWindowScore b (neg_ℤ w) (neg_ℤ r)
turned_plain b c w r e p =
    let l = p.least in
    let m = p.most in
    record {
      below = λ x. let k : r ≤ℤ w = p.above (omega (arith, ints)) in omega (arith, ints);
      above = λ x. let k : w ≤ℤ r = p.below (omega (arith, ints)) in omega (arith, ints);
      least = omega (arith, ints);
      most = omega (arith, ints);
    }

pub turned_above : (b w r : ℤ) → IsBound b → IsNullWindowScore (shown (negsuc 0 -ℤ shown b)) w r → IsNullWindowScore b (neg_ℤ w) (shown (pos 0 -ℤ shown r))
turned_above b w r bound p =
    let l = p.least in
    let m = p.most in
    let n : shown (pos 0 -ℤ shown r) ≡ neg_ℤ r = omega (arith, ints) in
    recast b (b +ℤ pos 1) b (b +ℤ pos 1) (neg_ℤ w) (neg_ℤ r) _ refl refl (sym n) (turned_plain b _ w r (other_same b bound) p)

-- one move is searched: s is a fail-soft score of what it is worth, u, which is at most the value v
module _ (b v u s : ℤ) (bound : IsBound b) (p : IsNullWindowScore b u s) (above : u ≤ℤ v) where
  pub cut_above : lt_z (shown b) s ≡ true → IsNullWindowScore b v s
  cut_above h =
      let e = bound_same b bound in
      let k : s ≤ℤ u = p.above (omega (arith, ints)) in
      record { below = λ x. absurd (omega (arith, ints)); above = λ x. omega (arith, ints); least = p.least; most = p.most }

  module _ (h : lt_z (shown b) s ≡ false) where
    pub score_open : s ≤ℤ shown b
    score_open = omega (arith, ints)

    pub score_covers : u ≤ℤ s
    score_covers = let e = bound_same b bound in p.below (omega (arith, ints))

    -- with the best so far it leaves the best, m
    module _ (best m : ℤ) (least : negsuc 64 ≤ℤ best) (open' : best ≤ℤ shown b) (is : m ≡ int_max best s) where
      best_same : shown m ≡ int_max best s
      best_same =
          let e = bound_same b bound in
          let l = p.least in
          let n = p.most in
          let k = bound.1 in
          shown_same m (omega (arith, ints, clamps, is, least, l)) (omega (arith, ints, clamps, is, open', e, k, n)) ∙ is

      pub best_grows : best ≤ℤ shown m
      best_grows = let e = best_same in omega (arith, ints, clamps)

      pub best_covers : u ≤ℤ shown m
      best_covers = let e = best_same in let k = score_covers in omega (arith, ints, clamps)

      pub best_open : shown m ≤ℤ shown b
      best_open = let e = best_same in let k = score_open in omega (arith, ints, clamps)

      pub best_least : negsuc 64 ≤ℤ shown m
      best_least = let e = best_same in omega (arith, ints, clamps)

-- before the first move is searched the best is one below the least score
pub before_first : (b : ℤ) → IsBound b → negsuc 64 ≤ℤ shown b
before_first b bound = let e = bound_same b bound in let l = bound.0 in omega (arith, ints)

pub after_first : (s : ℤ) → negsuc 63 ≤ℤ s → negsuc 64 ≤ℤ s
after_first s l = omega (arith, ints)

-- where every move was searched
pub none_above : (b v best : ℤ) → IsBound b → IsScore v → best ≤ℤ shown b → v ≤ℤ best → IsNullWindowScore b v best
none_above b v best bound score open' covered =
    let e = bound_same b bound in
    let l = score.low in
    let m = bound.1 in
    record { below = λ x. covered; above = λ x. absurd (omega (arith, ints)); least = omega (arith, ints); most = omega (arith, ints) }

-- a move is worth minus u, where the most that the other side can have is a: enough if that is above the bound
pub known_above : (b v u a : ℤ) → IsBound b → neg_ℤ u ≤ℤ v → u ≤ℤ a → negsuc 63 ≤ℤ a → a ≤ℤ pos 64 → lt_z (shown b) (shown (pos 0 -ℤ shown a)) ≡ true
    → IsNullWindowScore b v (shown (pos 0 -ℤ shown a))
known_above b v u a bound worth most l m h =
    let n : shown (pos 0 -ℤ shown a) ≡ neg_ℤ a = omega (arith, ints) in
    let e = bound_same b bound in
    record { below = λ x. absurd (omega (arith, ints)); above = λ x. omega (arith, ints); least = omega (arith, ints); most = omega (arith, ints) }
