-- The value lies from -64 to 64.
use Rattle.std.proofs.Common.{◌≡◌, ℕ, zero, suc, ◌+◌, ◌<◌, ◌≤◌, true, cond, List, [], ◌∷◌, length, map, refl, arith, inl, inr, ℤ, pos, negsuc, neg_ℤ, ◌-ℤ◌}
use Rattle.std.specs.Prelude.{nat_lt}
use Rattle.std.specs.List.{Contains, count_by}
use Rattle.std.specs.Int.{int_signum}
use Rattle.std.proofs.lemmas.Int.{ints}
use Rattle.std.proofs.lemmas.Bool.{cases_Bool, ltb-true}
use Rattle.std.proofs.lemmas.List.Sums.{sum_by-cons}
use Rattle.othello_rules.specs.declared.discs.Side.{Side}
use Rattle.othello_rules.specs.declared.discs.Side.TheVariants as side
use Rattle.othello_rules.specs.declared.discs.Cell.{Cell}
use Rattle.othello_rules.specs.declared.discs.Cell.TheVariants as cell
use Rattle.othello_rules.specs.declared.scoring.Scoring.{Scoring}
use Rattle.othello_rules.specs.Rules.{GridView, own, opposing, other, disc, same_cell, count_of, moves, play, pass}
use Rattle.othello_rules.specs.Scores.{score_of, final}
use Rattle.othello_rules.specs.declared.scoring.Scoring.TheVariants.{Winner, Discs, Sign}
use Rattle.othello_rules.specs.Answer.{IsScore}
use Rattle.othello_rules.specs.Value.{greatest, can_move, worth, best_worth, empties, value_at, value}
use Rattle.othello_rules.proofs.CountLaws.{length-play}
use Rattle.othello_rules.proofs.ValueLaws.{some_move}
use Rattle.othello_rules.proofs.BoundLaws.{greatest_reached, Contains-map, Contains-from_map}

count-cons : (c x : Cell) (xs : List Cell) → count_by (same_cell c) (x ∷ xs) ≡ cond (same_cell c x) 1 0 + count_by (same_cell c) xs
count-cons c x xs = sum_by-cons (λ y. cond (same_cell c y) 1 0) x xs

all_counted : (xs : List Cell) → count_by (same_cell cell.Empty) xs + count_by (same_cell cell.Black) xs + count_by (same_cell cell.White) xs ≡ length xs
all_counted [] = refl
all_counted (cell.Empty ∷ xs) =
    omega (arith, count-cons cell.Empty cell.Empty xs, count-cons cell.Black cell.Empty xs, count-cons cell.White cell.Empty xs, all_counted xs)
all_counted (cell.Black ∷ xs) =
    omega (arith, count-cons cell.Empty cell.Black xs, count-cons cell.Black cell.Black xs, count-cons cell.White cell.Black xs, all_counted xs)
all_counted (cell.White ∷ xs) =
    omega (arith, count-cons cell.Empty cell.White xs, count-cons cell.Black cell.White xs, count-cons cell.White cell.White xs, all_counted xs)

by_side : (s : Side) (xs : List Cell)
    → count_by (same_cell (disc s)) xs + count_by (same_cell (disc (other s))) xs + count_by (same_cell cell.Empty) xs ≡ length xs
by_side side.Black xs = omega (arith, all_counted xs)
by_side side.White xs = omega (arith, all_counted xs)

pub counts_add : (P : GridView) → count_of P (own P) + count_of P (opposing P) + count_of P cell.Empty ≡ length P.cells
counts_add P = by_side P.mover P.cells

pub score_of-IsScore : (g : Scoring) (m o e : ℕ) → m + o + e ≤ 64 → IsScore (score_of g m o e)
score_of-IsScore Winner m o e h =
    elim (cases_Bool (nat_lt o m)) [
      | inl b ↦ let more : o < m = ltb-true o m b in rw b (record { low = omega (arith, ints); high = omega (arith, ints) })
      | inr b ↦
          elim (cases_Bool (nat_lt m o)) [
            | inl d ↦ let fewer : m < o = ltb-true m o d in rw (b, d) (record { low = omega (arith, ints); high = omega (arith, ints) })
            | inr d ↦ rw (b, d) (record { low = omega (arith, ints); high = omega (arith, ints) })
          ]
    ]
score_of-IsScore Discs m o e h = record { low = omega (arith, ints); high = omega (arith, ints) }
score_of-IsScore Sign m o e h = signum-IsScore (pos m -ℤ pos o)
  where
    signum-IsScore : (z : ℤ) → IsScore (int_signum z)
    signum-IsScore (pos n) = record { low = omega (arith, ints); high = omega (arith, ints) }
    signum-IsScore (negsuc n) = record { low = omega (arith, ints); high = omega (arith, ints) }

pub final-IsScore : (g : Scoring) (P : GridView) → length P.cells ≤ 64 → IsScore (final g P)
unfolding final
final-IsScore g P h = score_of-IsScore g (count_of P (own P)) (count_of P (opposing P)) (count_of P cell.Empty) (omega (arith, counts_add P))

pub neg-IsScore : (z : ℤ) → IsScore z → IsScore (neg_ℤ z)
neg-IsScore z h = record { low = omega (arith, ints); high = omega (arith, ints) }

best_of-IsScore : (v : GridView → ℤ) (P : GridView) → can_move P ≡ true → ((q : ℕ) → IsScore (v (play P q))) → IsScore (best_worth v P)
unfolding best_worth
best_of-IsScore v P h each =
    let s : (q : ℕ) × Contains (moves P) q = some_move P h in
    let r : (q : ℕ) × Contains (moves P) q × (worth v P q ≡ greatest (map (worth v P) (moves P))) =
    Contains-from_map (worth v P) (moves P) (greatest (map (worth v P) (moves P)))
    (greatest_reached (map (worth v P) (moves P)) (worth v P s.0) (Contains-map (worth v P) (moves P) s.0 s.1)) in
    rw (← r.2) (neg-IsScore (v (play P r.0)) (each r.0))

value_at-IsScore : (g : Scoring) (n : ℕ) (P : GridView) → length P.cells ≤ 64 → IsScore (value_at g n P)
unfolding value_at
value_at-IsScore g zero P h = final-IsScore g P h
value_at-IsScore g (suc n) P h =
    elim (cases_Bool (can_move P)) [
      | inl b ↦ rw (b, value_at) (best_of-IsScore (value_at g n) P b (λ q. value_at-IsScore g n (play P q) (rw length-play h)))
      | inr b ↦
          elim (cases_Bool (can_move (pass P))) [
            | inl d ↦
                rw (b, d, value_at)
                (neg-IsScore (best_worth (value_at g n) (pass P))
                (best_of-IsScore (value_at g n) (pass P) d (λ q. value_at-IsScore g n (play (pass P) q) (rw length-play h))))
            | inr d ↦ rw (b, d, value_at) (final-IsScore g P h)
          ]
    ]

pub value-IsScore : (g : Scoring) (P : GridView) → length P.cells ≤ 64 → IsScore (value g P)
unfolding value
value-IsScore g P h = value_at-IsScore g (empties P) P h
