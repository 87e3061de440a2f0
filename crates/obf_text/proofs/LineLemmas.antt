-- The first line of a text, and the text after it.
use Rattle.std.proofs.Common.{◌≡◌, ◌==◌, ℕ, ◌+◌, ◌<◌, ◌≤◌, Bool, true, false, cond, List, [], ◌∷◌, length, take, drop, refl, sym, subst, arith}
use Rattle.std.specs.Prelude.{Some, None, nat_lt}
use Rattle.std.specs.List.{slice_split, onto_first, position, position_or_len}
use Rattle.std.specs.Str.Lines.{strip_carriage_return}
use Rattle.std.proofs.lemmas.List.Splits.{slice_split_first, slice_split_none}
use Rattle.std.proofs.lemmas.List.Sums.{fails_before_first, prefix_len-le-length}
use borrow.Author.Tests.{ltb-true, ltb-false}
use Rattle.obf_text.specs.LineText.{lines_of, without_empty_last}

-- there is always a first part
onto_first_has : {X : Type 0} (x : X) (ps : List (List X)) → (y : List X) × (more : List (List X)) × (onto_first x ps ≡ y ∷ more)
onto_first_has x [] = (x ∷ [], [], refl)
onto_first_has x (p ∷ ps) = (x ∷ p, ps, refl)

pub has_first_part : {X : Type 0} (p : X → Bool) (xs : List X) → (y : List X) × (more : List (List X)) × (slice_split p xs ≡ y ∷ more)
has_first_part p [] = ([], [], refl)
has_first_part {X} p (x ∷ xs) =
    elim (p x) as (λ t. (y : List X) × (more : List (List X)) × (cond t ([] ∷ slice_split p xs) (onto_first x (slice_split p xs)) ≡ y ∷ more))
    [ true ↦ ([], slice_split p xs, refl) | false ↦ onto_first_has x (slice_split p xs) ]

pub keeps_first : (x : List ℕ) (ps : List (List ℕ)) (y : List ℕ) (more : List (List ℕ)) → ps ≡ y ∷ more
    → without_empty_last (x ∷ ps) ≡ x ∷ without_empty_last ps
keeps_first [] ps y more e = rw e refl
keeps_first (b ∷ bs) ps y more e = rw e refl

-- ---- the first LF

module _ (text : List ℕ) where
  abbrev end : ℕ
  end = position_or_len (λ b. b == 10) text

  -- where it is, if there is one
  pub feed_at : (n : ℕ) → position (λ b. b == 10) text ≡ Some n → (n ≡ end) × (n < length text)
  feed_at n = go (nat_lt end (length text)) refl
    where
      go : (b : Bool) → nat_lt end (length text) ≡ b → cond b (Some end) None ≡ Some n → (n ≡ end) × (n < length text)
      go true e h = let same : end ≡ n = cc in (sym same, subst (λ k. k < length text) same (ltb-true _ _ e))
      go false e h = cc

  feed_none : position (λ b. b == 10) text ≡ None → length text ≤ end
  feed_none = go (nat_lt end (length text)) refl
    where
      go : (b : Bool) → nat_lt end (length text) ≡ b → cond b (Some end) None ≡ None → length text ≤ end
      go true e h = cc
      go false e h = ltb-false _ _ e

pub feed_within : (text : List ℕ) (n : ℕ) → position (λ b. b == 10) text ≡ Some n → n < length text
feed_within text n at = (feed_at text n at).1

pub lines_first : (text : List ℕ) (n : ℕ) → position (λ b. b == 10) text ≡ Some n
    → lines_of text ≡ strip_carriage_return (take n text) ∷ lines_of (drop (n + 1) text)
lines_first text n at =
    let e = (feed_at text n at).0 in
    let h = (feed_at text n at).1 in
    let part = has_first_part (λ b. b == 10) (drop (n + 1) text) in
    let cut : slice_split (λ b. b == 10) text ≡ take n text ∷ slice_split (λ b. b == 10) (drop (n + 1) text) =
    rw e (slice_split_first (λ b. b == 10) text 0 (omega arith)) in
    rw cut (rw (keeps_first (take n text) _ part.0 part.1 part.2) refl)

pub lines_last : (text : List ℕ) → 0 < length text → position (λ b. b == 10) text ≡ None → lines_of text ≡ strip_carriage_return text ∷ []
lines_last [] some none = absurd (omega arith)
lines_last (b ∷ bs) some none =
    let h = feed_none (b ∷ bs) none in
    let whole : slice_split (λ b. b == 10) (b ∷ bs) ≡ (b ∷ bs) ∷ [] =
    slice_split_none (λ b. b == 10) (b ∷ bs) (λ k d lt. fails_before_first (λ b. b == 10) (b ∷ bs) k d (omega arith)) in
    rw whole refl

pub ruleset line_steps = (lines_last, feed_within)

pub ruleset place_steps = (prefix_len-le-length)
