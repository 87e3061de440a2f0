-- How many discs are turned on all lines from a square, where no other square is empty.
use Rattle.std.proofs.Common.{◌≡◌, ◌≢◌, ℕ, ◌+◌, ◌<◌, Bool, true, false, cond, not, ◌&&◌, ◌||◌, eqb, ltb, inl, inr, List}
use Rattle.std.proofs.Common.{[], ◌∷◌, length, bit_and, refl, ap, sym, ◌∙◌, arith}
use Rattle.std.specs.List.{list_all, list_any, count_by}
use Rattle.std.proofs.Math.Bool.{and-false}
use Rattle.std.proofs.lemmas.Bool.{agree_below_at, ltb-true, eqb-true, false≢true, and_parts, not-true, cases_Bool, cases_eq, eq-eqb, ne_eqb}
use Rattle.othello_rules.specs.Board.{directions, ray, squares}
use Rattle.othello_rules.specs.Rules.{run, closes, turned_on}
use Rattle.othello_rules.specs.Masks.{in_mask}
use Rattle.othello_bits.specs.Pos.{mem}
use Rattle.othello_bits.specs.Shifts.{lines, is_turned}
use Rattle.othello_bits.specs.Lasts.{turned_along, turned_by}
use Rattle.othello_bits.specs.declared.mobility.Direction.TheVariants.{North, NorthEast, East, SouthEast, South, SouthWest, West, NorthWest}
use Rattle.othello_bits.proofs.Bits.{empty_meet}
use Rattle.othello_bits.proofs.LineCounts.{distinct, distinct_parts}
use Rattle.othello_bits.proofs.Numbers.{count_below, both_below}
use Rattle.othello_bits.proofs.RunEnds.{each}
use Rattle.othello_bits.proofs.TurnedMasks.{count-squares}

pub or_none : (a b : Bool) → (a || b) ≡ false → (a ≡ false) × (b ≡ false)
or_none true b e = absurd (false≢true (sym e))
or_none false b e = (refl, e)

one_at : (x : ℕ) → x < 64 → count_below 64 (λ i. eqb x i) ≡ 1
unfolding count_below
one_at x h = eqb-true (count_below 64 (λ i. eqb x i)) 1 (agree_below_at (λ x. eqb (count_below 64 (λ i. eqb x i)) 1) (λ x. true) 64 x refl h)

none_at : count_below 64 (λ i. false) ≡ 0
unfolding count_below
none_at = refl

put_none : (o : Bool) (x i : ℕ) (xs : List ℕ) → eqb x i ≡ false → mem i xs ≡ false → mem i (cond o (x ∷ xs) []) ≡ false
put_none true x i xs e f = rw (e, f) refl
put_none false x i xs e f = refl

total : (List ℕ → ℕ) → List (List ℕ) → ℕ
total f [] = 0
total f (met ∷ ls) = f met + total f ls

-- lines of squares of the board, no square twice
unfoldable apart_lines : List (List ℕ) → Bool
apart_lines [] = true
apart_lines (met ∷ ls) = distinct met && (list_all (λ x. not (list_any (mem x) ls)) met && apart_lines ls)

module _ (own opp : ℕ → Bool) where
  run_none : (i : ℕ) (xs : List ℕ) → mem i xs ≡ false → mem i (run opp xs) ≡ false
  unfolding run
  run_none i [] n = refl
  run_none i (x ∷ xs) n =
      let e = or_none (eqb x i) (mem i xs) n in
      put_none (opp x) x i (run opp xs) e.0 (run_none i xs e.1)

  turned_none : (i : ℕ) (xs : List ℕ) → mem i xs ≡ false → mem i (turned_on own opp xs) ≡ false
  turned_none i xs n = by (closes own opp xs)
    where
      by : (c : Bool) → mem i (cond c (run opp xs) []) ≡ false
      by true = run_none i xs n
      by false = refl

  count_put : (o : Bool) (x : ℕ) (xs rs : List ℕ) → x < 64 → ((i : ℕ) → (eqb x i && mem i rs) ≡ false)
      → count_below 64 (λ i. mem i rs) ≡ length rs → count_below 64 (λ i. mem i (cond o (x ∷ rs) [])) ≡ length (cond o (x ∷ rs) [])
  count_put true x xs rs l apart ih = let b = both_below 64 (λ i. eqb x i) (λ i. mem i rs) apart in omega (arith, b, one_at x l, ih)
  count_put false x xs rs l apart ih = none_at

  count_run : (xs : List ℕ) → distinct xs ≡ true → count_below 64 (λ i. mem i (run opp xs)) ≡ length (run opp xs)
  unfolding run
  count_run [] d = none_at
  count_run (x ∷ xs) d =
      let p = distinct_parts x xs d in
      let apart : (i : ℕ) → (eqb x i && mem i (run opp xs)) ≡ false = λ i. elim (cases_eq x i) [
        | inl e ↦ let n : mem i (run opp xs) ≡ false = run_none i xs (ap (λ j. mem j xs) (sym e) ∙ p.1) in rw n (and-false (eqb x i))
        | inr n ↦ rw (ne_eqb x i n) refl
      ] in
      count_put (opp x) x xs (run opp xs) p.0 apart (count_run xs p.2)

  count_turned : (xs : List ℕ) → distinct xs ≡ true → count_below 64 (λ i. mem i (turned_on own opp xs)) ≡ length (turned_on own opp xs)
  count_turned xs d = by (closes own opp xs)
    where
      by : (c : Bool) → count_below 64 (λ i. mem i (cond c (run opp xs) [])) ≡ length (cond c (run opp xs) [])
      by true = count_run xs d
      by false = none_at

  any_none : (i : ℕ) (ls : List (List ℕ)) → list_any (mem i) ls ≡ false → list_any (λ met. mem i (turned_on own opp met)) ls ≡ false
  any_none i [] n = refl
  any_none i (met ∷ ls) n =
      let e = or_none (mem i met) (list_any (mem i) ls) n in
      rw (turned_none i met e.0, any_none i ls e.1) refl

  count_lines : (ls : List (List ℕ)) → apart_lines ls ≡ true
      → count_below 64 (λ i. list_any (λ met. mem i (turned_on own opp met)) ls) ≡ total (λ met. length (turned_on own opp met)) ls
  unfolding apart_lines total
  count_lines [] a = none_at
  count_lines (met ∷ ls) a =
      let p = and_parts (distinct met) (list_all (λ x. not (list_any (mem x) ls)) met && apart_lines ls) a in
      let r = and_parts (list_all (λ x. not (list_any (mem x) ls)) met) (apart_lines ls) p.1 in
      let apart : (i : ℕ) → (mem i (turned_on own opp met) && list_any (λ m. mem i (turned_on own opp m)) ls) ≡ false = λ i. elim (cases_Bool (mem i met)) [
        | inl m ↦
            let n = any_none i ls (not-true (list_any (mem i) ls) (each (λ x. not (list_any (mem x) ls)) met r.0 i m)) in
            rw n (and-false (mem i (turned_on own opp met)))
        | inr m ↦ rw (turned_none i met m) refl
      ] in
      both_below 64 (λ i. mem i (turned_on own opp met)) (λ i. list_any (λ m. mem i (turned_on own opp m)) ls) apart
      ∙ (λ k. count_turned met p.0 k + count_lines ls r.1 k)

negated_by : (a b : Bool) → (a || b) ≡ true → (a && b) ≡ false → b ≡ not a
negated_by true true f e = absurd (false≢true (sym e))
negated_by true false f e = refl
negated_by false b f e = f

abbrev off : ℕ → ℕ → Bool
off q x = ltb x 64 && not (eqb x q)

module _ (own opp q : ℕ) (apart : bit_and own opp ≡ 0) (filled : (i : ℕ) → i < 64 → i ≢ q → (in_mask own i || in_mask opp i) ≡ true) where
  is_opposite : (x : ℕ) → off q x ≡ true → in_mask opp x ≡ not (in_mask own x)
  is_opposite x t =
      let p = and_parts (ltb x 64) (not (eqb x q)) t in
      negated_by (in_mask own x) (in_mask opp x)
      (filled x (ltb-true x 64 p.0) (λ e. false≢true (sym (not-true (eqb x q) p.1) ∙ eq-eqb x q e))) (empty_meet own opp apart x)

  closes-same : (xs : List ℕ) → list_all (off q) xs ≡ true → closes (in_mask own) (in_mask opp) xs ≡ closes (in_mask own) (λ i. not (in_mask own i)) xs
  unfolding closes
  closes-same [] a = refl
  closes-same (x ∷ xs) a = let p = and_parts (off q x) (list_all (off q) xs) a in rw (is_opposite x p.0, closes-same xs p.1)

  run-same : (xs : List ℕ) → list_all (off q) xs ≡ true → run (in_mask opp) xs ≡ run (λ i. not (in_mask own i)) xs
  unfolding run
  run-same [] a = refl
  run-same (x ∷ xs) a = let p = and_parts (off q x) (list_all (off q) xs) a in rw (is_opposite x p.0, run-same xs p.1)

  along-same : (ls : List (List ℕ)) → list_all (list_all (off q)) ls ≡ true
      → total (λ met. length (turned_on (in_mask own) (in_mask opp) met)) ls ≡ total (turned_along own) ls
  unfolding total
  along-same [] a = refl
  along-same (met ∷ ls) a =
      let p = and_parts (list_all (off q) met) (list_all (list_all (off q)) ls) a in
      let e : length (turned_on (in_mask own) (in_mask opp) met) ≡ turned_along own met = rw (closes-same met p.0, run-same met p.0) in
      λ k. e k + along-same ls p.1 k

  by_lines : q < 64
      → total (turned_along own) (lines q) ≡ turned_by own West East q + turned_by own North South q
      + turned_by own NorthWest SouthEast q + turned_by own SouthWest NorthEast q
  unfolding directions total
  by_lines l = omega arith

  pub count_free : q < 64 → (in_mask own q || in_mask opp q) ≡ false → count_by (is_turned (in_mask own) (in_mask opp) q) squares
      ≡ turned_by own West East q + turned_by own North South q + turned_by own NorthWest SouthEast q + turned_by own SouthWest NorthEast q
  unfolding directions ray distinct apart_lines
  count_free l free =
      count-squares (is_turned (in_mask own) (in_mask opp) q)
      ∙ (λ k. count_below 64 (λ i. not (free k) && list_any (λ met. mem i (turned_on (in_mask own) (in_mask opp) met)) (lines q)))
      ∙ count_lines (in_mask own) (in_mask opp) (lines q) (agree_below_at (λ q. apart_lines (lines q)) (λ q. true) 64 q refl l)
      ∙ along-same (lines q) (agree_below_at (λ q. list_all (list_all (off q)) (lines q)) (λ q. true) 64 q refl l)
      ∙ by_lines l

pub count_taken : (own opp q : ℕ) → (in_mask own q || in_mask opp q) ≡ true → count_by (is_turned (in_mask own) (in_mask opp) q) squares ≡ 0
count_taken own opp q taken =
    count-squares (is_turned (in_mask own) (in_mask opp) q)
    ∙ (λ k. count_below 64 (λ i. not (taken k) && list_any (λ met. mem i (turned_on (in_mask own) (in_mask opp) met)) (lines q)))
    ∙ none_at
