-- What was read is the whole, where it is within the limits; and the statuses of a program that ended without options.
use Rattle.std.proofs.Common.{◌≡◌, ◌⊎◌, ◌≤◌, ◌+◌, ℕ, List, [], ◌∷◌, length, min, take, refl, sym, ◌∙◌, ap, arith, inl, inr, Bool, true, false}
use Rattle.std.specs.Prelude.{Option, Some, None, IfSome}
use Rattle.std.proofs.lemmas.List.{length-take, take_all}
use Rattle.std.proofs.lemmas.Bool.{cases_lt}
use Rattle.std.proofs.Math.Nat.{min_comm, min-eq_left}
use borrow.Author.Tests.{ltb-false}
use Rattle.program_parts.specs.Inputs.{AreFrontsOf, AreTextsOf}
use Rattle.program_settings.specs.InputFault.{first_large, is_large}
use Rattle.program_settings.specs.declared.limits.TheConstants.{MOST_BYTES, MOST_FILES}

-- a front that is no longer than n is the whole, where one element more was asked for
whole_front : {X : Type 0} (n m : ℕ) (all : List X) → m ≡ n + 1 → length (take m all) ≤ n → take m all ≡ all
whole_front n m all e h =
    let l = length-take m all in
    take_all m all (omega arith)

some_not_none : (n : ℕ) → Some n ≡ None → ⊥
some_not_none n e = cc

first_if_large : (text : List ℕ) → is_large text ≡ true → first_large (text ∷ []) ≡ Some 0
first_if_large text e = rw e refl

small_one : (text : List ℕ) (b : Bool) → is_large text ≡ b → first_large (text ∷ []) ≡ None → is_large text ≡ false
small_one text false e none = e
small_one text true e none = absurd (some_not_none 0 (sym (first_if_large text e) ∙ none))

whole_input : (given : Option (List ℕ)) (texts : List (List ℕ))
    → IfSome given (λ all. texts ≡ take (MOST_BYTES + 1) all ∷ []) → first_large texts ≡ None → IfSome given (λ text. texts ≡ text ∷ [])
whole_input None texts read small = read
whole_input (Some all) texts read small =
    let one = rw read at small in
    let short = ltb-false _ _ (small_one (take (MOST_BYTES + 1) all) (is_large (take (MOST_BYTES + 1) all)) refl one) in
    read ∙ ap (λ t. t ∷ []) (whole_front MOST_BYTES (MOST_BYTES + 1) all refl short)

-- of no more texts than the limit none is left out
all_named : (limit n m : ℕ) → n ≡ min (limit + 1) m → n ≤ limit → n ≡ m
all_named limit n m e few = elim (cases_lt limit m) [
  | inl many ↦ let whole = e ∙ min-eq_left {n = limit + 1} {m = m} (omega (arith, many)) in absurd (omega (arith, whole, few))
  | inr le ↦ e ∙ min_comm (limit + 1) m ∙ min-eq_left {n = m} {m = limit + 1} (omega (arith, le))
]

-- what was read is the whole, where it is no larger than a file may be
pub whole_texts : (names : List (List ℕ)) (given : Option (List ℕ)) (texts : List (List ℕ))
    → AreFrontsOf names given texts → first_large texts ≡ None → length texts ≤ MOST_FILES → AreTextsOf names given texts
whole_texts [] given texts read small few = whole_input given texts read small
whole_texts (name ∷ names) given texts read small few = all_named MOST_FILES (length texts) (length (name ∷ names)) read few

-- the status of a program that ended without options
pub in_range_of : (s : ℕ) → (s ≡ 0) ⊎ ((s ≡ 2) ⊎ (s ≡ 3)) → s ≤ 3
in_range_of s (inl zero) = omega (arith, zero)
in_range_of s (inr (inl two)) = omega (arith, two)
in_range_of s (inr (inr three)) = omega (arith, three)

pub not_one : (s : ℕ) (P : Type 0) → (s ≡ 0) ⊎ ((s ≡ 2) ⊎ (s ≡ 3)) → s ≡ 1 → P
not_one s P (inl zero) one = absurd (omega (arith, zero, one))
not_one s P (inr (inl two)) one = absurd (omega (arith, two, one))
not_one s P (inr (inr three)) one = absurd (omega (arith, three, one))
