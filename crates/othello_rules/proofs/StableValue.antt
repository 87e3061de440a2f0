-- A side keeps its stable discs to the end, so their number bounds the value.
use Rattle.std.proofs.Common.{◌≡◌, ℕ, zero, suc, ◌+◌, ◌*◌, ◌<◌, ◌≤◌, Bool, true, false, cond, List, [], ◌∷◌, length, get_or, map, refl, ap, sym, subst, ◌∙◌}
use Rattle.std.proofs.Common.{arith, inl, inr, ℤ, pos, negsuc, neg_ℤ, ◌-ℤ◌, ◌≤ℤ◌}
use Rattle.std.specs.Prelude.{nat_lt}
use Rattle.std.specs.List.{Contains, count_by}
use Rattle.std.specs.Int.{int_signum}
use Rattle.std.proofs.lemmas.Int.{ints}
use Rattle.std.proofs.lemmas.Bool.{cases_Bool, ltb-true}
use Rattle.std.proofs.lemmas.List.Sums.{sum_by-cons}
use Rattle.othello_rules.specs.declared.discs.Side.{Side}
use Rattle.othello_rules.specs.declared.discs.Side.TheVariants as side
use Rattle.othello_rules.specs.declared.discs.Cell.{Cell}
use Rattle.othello_rules.specs.declared.discs.Cell.TheVariants as cell
use Rattle.othello_rules.specs.declared.scoring.Scoring.{Scoring}
use Rattle.othello_rules.specs.declared.scoring.Scoring.TheVariants.{Winner, Discs, Sign}
use Rattle.othello_rules.specs.Board.{squares}
use Rattle.othello_rules.specs.Rules.{GridView, has, own, opposing, other, disc, same_cell, count_of, moves, play, pass}
use Rattle.othello_rules.specs.Scores.{score_of, final}
use Rattle.othello_rules.specs.Stable.{StaysFor, IsStable}
use Rattle.othello_rules.specs.Value.{greatest, can_move, worth, best_worth, empties, value_at, value}
use Rattle.othello_rules.proofs.CountLaws.{length-play, has_get_or}
use Rattle.othello_rules.proofs.ValueLaws.{some_move}
use Rattle.othello_rules.proofs.BoundLaws.{greatest_reached, Contains-map, Contains-from_map, moves_none}
use Rattle.othello_rules.proofs.RangeLaws.{counts_add}
use Rattle.othello_rules.proofs.Renaming.{all_cells}
use Rattle.othello_rules.proofs.Reorder.{sum_by-map}

-- counts of squares
pub count-le : {X : Type 0} (f g : X → Bool) (xs : List X) → ((x : X) → f x ≡ true → g x ≡ true) → count_by f xs ≤ count_by g xs
count-le f g [] h = omega arith
count-le f g (x ∷ xs) h =
    let rest : count_by f xs ≤ count_by g xs = count-le f g xs h in
    let first : cond (f x) 1 0 ≤ cond (g x) 1 0 = at (f x) (g x) (h x) in
    omega (arith, sum_by-cons (λ y. cond (f y) 1 0) x xs, sum_by-cons (λ y. cond (g y) 1 0) x xs, rest, first)
  where
    at : (a b : Bool) → (a ≡ true → b ≡ true) → cond a 1 0 ≤ cond b 1 0
    at true b i = let e : b ≡ true = i refl in rw e (omega arith)
    at false true i = omega arith
    at false false i = omega arith

-- a side has each disc of a set of its own
count-le-discs : (f : ℕ → Bool) (P : GridView) (s : Side) → length P.cells ≡ 64 → ((q : ℕ) → f q ≡ true → has P (disc s) q ≡ true)
    → count_by f squares ≤ count_of P (disc s)
count-le-discs f P s whole held =
    let cell_of : ℕ → Cell = λ q. get_or P.cells q cell.Empty in
    let each : count_by f squares ≤ count_by (λ q. same_cell (disc s) (cell_of q)) squares =
    count-le f (λ q. same_cell (disc s) (cell_of q)) squares (λ q h. has_get_or P (disc s) q cell.Empty (held q h)) in
    let all : count_of P (disc s) ≡ count_by (λ q. same_cell (disc s) (cell_of q)) squares =
    ap (count_by (same_cell (disc s))) (all_cells P.cells whole) ∙ sum_by-map (λ c. cond (same_cell (disc s) c) 1 0) cell_of squares in
    omega (arith, each, all)

-- z bounds the score from above against c discs of the opponent, and from below with c discs of the mover
score-within : (g : Scoring) (m o e c z : ℕ) → m + o + e ≡ 64 → 1 ≤ z → 64 ≤ z + 2 * c
    → (c ≤ o → score_of g m o e ≤ℤ pos z) × (c ≤ m → neg_ℤ (pos z) ≤ℤ score_of g m o e)
score-within Winner m o e c z h i b =
    elim (cases_Bool (nat_lt o m)) [
      | inl t ↦ let more : o < m = ltb-true o m t in rw t (λ k. omega (arith, ints), λ k. omega (arith, ints))
      | inr t ↦
          elim (cases_Bool (nat_lt m o)) [
            | inl d ↦ let fewer : m < o = ltb-true m o d in rw (t, d) (λ k. omega (arith, ints), λ k. omega (arith, ints))
            | inr d ↦ rw (t, d) (λ k. omega (arith, ints), λ k. omega (arith, ints))
          ]
    ]
score-within Discs m o e c z h i b = (λ k. omega (arith, ints), λ k. omega (arith, ints))
score-within Sign m o e c z h i b = (λ k. (signum (pos m -ℤ pos o)).0, λ k. (signum (pos m -ℤ pos o)).1)
  where
    signum : (y : ℤ) → (int_signum y ≤ℤ pos z) × (neg_ℤ (pos z) ≤ℤ int_signum y)
    signum (pos n) = (omega (arith, ints), omega (arith, ints))
    signum (negsuc n) = (omega (arith, ints), omega (arith, ints))

-- v, a value of P as its mover sees it, is at most z for the side that plays against side s
abbrev AtMostAgainst : Side → ℕ → GridView → ℤ → Type 0
AtMostAgainst s z P v = (s ≡ other P.mover → v ≤ℤ pos z) × (s ≡ P.mover → neg_ℤ (pos z) ≤ℤ v)

module _ (g : Scoring) (f : ℕ → Bool) (s : Side) (z : ℕ) (some : 1 ≤ z) (enough : 64 ≤ z + 2 * count_by f squares) where
  -- the discs of the set are stable discs of side s
  abbrev Stay : GridView → Type 0
  Stay P = (length P.cells ≡ 64) × ((q : ℕ) → f q ≡ true → IsStable P s q)

  stay-play : (P : GridView) (q : ℕ) → Contains (moves P) q → Stay P → Stay (play P q)
  unfolding StaysFor
  stay-play P q m (whole, stable) = (rw length-play whole, λ k h n. (stable k h (suc n)).1 q m)

  stay-pass : (P : GridView) → can_move P ≡ false → Stay P → Stay (pass P)
  unfolding StaysFor
  stay-pass P none (whole, stable) = (whole, λ k h n. (stable k h (suc n)).2 (moves_none P none))

  against-final : (P : GridView) → Stay P → AtMostAgainst s z P (final g P)
  unfolding final StaysFor
  against-final P (whole, stable) =
      let m = count_of P (own P) in
      let o = count_of P (opposing P) in
      let e = count_of P cell.Empty in
      let c : count_by f squares ≤ count_of P (disc s) = count-le-discs f P s whole (λ q h. stable q h 0) in
      let within = score-within g m o e (count_by f squares) z (counts_add P ∙ whole) some enough in (
        λ i. within.0 (subst (λ t. count_by f squares ≤ count_of P (disc t)) i c),
        λ i. within.1 (subst (λ t. count_by f squares ≤ count_of P (disc t)) i c),
      )

  other-other : (t : Side) → other (other t) ≡ t
  other-other side.Black = refl
  other-other side.White = refl

  -- seen from the other side
  against-neg : (P Q : GridView) (v : ℤ) → Q.mover ≡ other P.mover → AtMostAgainst s z Q v → AtMostAgainst s z P (neg_ℤ v)
  against-neg P Q v e (h, k) = (
    λ i. let l : neg_ℤ (pos z) ≤ℤ v = k (i ∙ sym e) in omega (arith, ints, l),
    λ i. let l : v ≤ℤ pos z = h (i ∙ sym (other-other P.mover) ∙ ap other (sym e)) in omega (arith, ints, l),
  )

  against-best : (v : GridView → ℤ) (P : GridView) → can_move P ≡ true
      → ((q : ℕ) → Contains (moves P) q → AtMostAgainst s z (play P q) (v (play P q))) → AtMostAgainst s z P (best_worth v P)
  unfolding best_worth play
  against-best v P h each =
      let t : (q : ℕ) × Contains (moves P) q = some_move P h in
      let r : (q : ℕ) × Contains (moves P) q × (worth v P q ≡ greatest (map (worth v P) (moves P))) =
      Contains-from_map (worth v P) (moves P) (greatest (map (worth v P) (moves P)))
      (greatest_reached (map (worth v P) (moves P)) (worth v P t.0) (Contains-map (worth v P) (moves P) t.0 t.1)) in
      subst (AtMostAgainst s z P) r.2 (against-neg P (play P r.0) (v (play P r.0)) refl (each r.0 r.1))

  against-value_at : (m : ℕ) (P : GridView) → Stay P → AtMostAgainst s z P (value_at g m P)
  unfolding value_at
  against-value_at zero P c = against-final P c
  against-value_at (suc m) P c =
      elim (cases_Bool (can_move P)) [
        | inl b ↦ rw (b, value_at) (against-best (value_at g m) P b (λ q h. against-value_at m (play P q) (stay-play P q h c)))
        | inr b ↦
            elim (cases_Bool (can_move (pass P))) [
              | inl d ↦
                  let passed : Stay (pass P) = stay-pass P b c in
                  rw (b, d, value_at) (against-neg P (pass P) (best_worth (value_at g m) (pass P)) refl
                  (against-best (value_at g m) (pass P) d (λ q h. against-value_at m (play (pass P) q) (stay-play (pass P) q h passed))))
              | inr d ↦ rw (b, d, value_at) (against-final P c)
            ]
      ]

-- the value is at most z, if z and twice a number of the opponent's stable discs are at least 64
pub value-most : (g : Scoring) (f : ℕ → Bool) (P : GridView) (z : ℕ) → length P.cells ≡ 64 → ((q : ℕ) → f q ≡ true → IsStable P (other P.mover) q)
    → 1 ≤ z → 64 ≤ z + 2 * count_by f squares → value g P ≤ℤ pos z
unfolding value
value-most g f P z whole stable some enough = (against-value_at g f (other P.mover) z some enough (empties P) P (whole, stable)).0 refl
