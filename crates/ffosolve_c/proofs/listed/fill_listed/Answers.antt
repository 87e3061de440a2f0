use Rattle.std.proofs.lemmas.Grind.{common_steps}
use Rattle.std.proofs.Common.{arith, ◌≡◌, ◌⊎◌, ℕ, ◌≤◌, ◌++◌, List, length, map, take, drop, min, inl, inr, sym, ap, ◌∙◌}
use Rattle.std.proofs.Math.Nat.{min_comm}
use Rattle.std.proofs.lemmas.Bool.{cases_lt}
use Rattle.std.proofs.lemmas.List.{take-append-drop, take-map, take_all, drop_all, length-map}
use Rattle.ffosolve_c.specs.declared.listed.FfosolveListed.{FfosolveListed}
use Rattle.ffosolve_c.specs.Lines.{c_listed, written_over}
use Rattle.ffosolve_c.proofs.listed.fill_listed.Goals as goal

-- the first i of the values, and behind them the places as they were, where i is the lesser length
filled : (places new values : List FfosolveListed) (i : ℕ) → take i new ≡ take i values → drop i new ≡ drop i places
    → take i values ≡ take (length places) values → drop i places ≡ drop (length values) places → new ≡ written_over places values
filled places new values i written kept first rest =
    sym (take-append-drop i new) ∙ ap (λ front. front ++ drop i new) (written ∙ first) ∙ ap (λ back. take (length places) values ++ back) (kept ∙ rest)

first_of_both : {X : Type 0} (xs : List X) (i n : ℕ) → (i ≡ n) ⊎ ((length xs ≤ i) × (length xs ≤ n)) → take i xs ≡ take n xs
first_of_both xs i n (inl same) = ap (λ k. take k xs) same
first_of_both xs i n (inr both) = take_all i xs both.0 ∙ sym (take_all n xs both.1)

rest_of_both : {X : Type 0} (xs : List X) (i n : ℕ) → (i ≡ n) ⊎ ((length xs ≤ i) × (length xs ≤ n)) → drop i xs ≡ drop n xs
rest_of_both xs i n (inl same) = ap (λ k. drop k xs) same
rest_of_both xs i n (inr both) = drop_all i xs both.0 ∙ sym (drop_all n xs both.1)

-- the lesser of two lengths is the second, or at least the first
lesser : (i m n : ℕ) → i ≡ min m n → (i ≡ n) ⊎ ((m ≤ i) × (m ≤ n))
lesser i m n is = elim (cases_lt n m) [ inl lt ↦ inl (omega (arith, is, lt)) | inr le ↦ inr (omega (arith, is, le), le) ]

pub returns : goal.returns
returns c =
    let values : List FfosolveListed = map c_listed c.args.listed.now in
    let same : length values ≡ length c.args.listed.now = length-map c.args.listed.now c_listed in
    let end : c.loop-i.i ≡ min (length values) (length c.args.places.now) =
    omega (arith, same, c.min-i-end.ensures, c.loop-i.auto.i-end, c.loop-i-test.false) in
    filled c.args.places.now c.loop-i.places values c.loop-i.i
    (c.loop-i.invariant.written ∙ sym (take-map c_listed c.loop-i.i c.args.listed.now)) c.loop-i.invariant.kept
    (first_of_both values c.loop-i.i (length c.args.places.now) (lesser _ _ _ end))
    (rest_of_both c.args.places.now c.loop-i.i (length values) (lesser _ _ _ (end ∙ min_comm (length values) (length c.args.places.now))))

pub loop-i-preserved : goal.loop-i-preserved
loop-i-preserved c = grind (arith, common_steps)
