-- The first part of a list that is cut at each element which passes a test.
use Rattle.std.proofs.Common.{◌≡◌, ℕ, ◌+◌, ◌≤◌, Bool, true, false, cond, List, [], ◌∷◌, length, take, drop, refl, arith, Some, None}
use Rattle.std.specs.Prelude.{nat_lt}
use Rattle.std.specs.List.{slice_split, position, position_or_len}
use Rattle.std.proofs.lemmas.List.Splits.{slice_split_first, slice_split_none}
use Rattle.std.proofs.lemmas.List.Sums.{fails_before_first}
use Rattle.std.proofs.lemmas.Option.{cond_some}
use borrow.Author.Tests.{ltb-true, ltb-false}

cond_none : {A : Type 0} (b : Bool) (x : A) → cond b (Some x) None ≡ None → b ≡ false
cond_none true x e = cc
cond_none false x e = refl

pub part_at : {X : Type 0} (p : X → Bool) (xs : List X) (d : X) (i : ℕ) → position p xs ≡ Some i
    → slice_split p xs ≡ take i xs ∷ slice_split p (drop (i + 1) xs)
part_at p xs d i e =
    let at = cond_some (nat_lt (position_or_len p xs) (length xs)) (position_or_len p xs) i e in
    rw (← at.1) (slice_split_first p xs d (ltb-true _ _ at.0))

pub part_none : {X : Type 0} (p : X → Bool) (xs : List X) → position p xs ≡ None → slice_split p xs ≡ xs ∷ []
part_none p xs e =
    let past : length xs ≤ position_or_len p xs = ltb-false _ _ (cond_none (nat_lt (position_or_len p xs) (length xs)) (position_or_len p xs) e) in
    slice_split_none p xs (λ k d lt. fails_before_first p xs k d (omega arith))
