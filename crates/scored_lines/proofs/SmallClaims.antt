-- Scores that a line lists have two digits at most.
use Rattle.std.proofs.Common.{◌≡◌, ℕ, Bool, ℤ, pos, neg_ℤ, ◌<◌, List, [], ◌∷◌, refl}
use Rattle.std.proofs.Common.{ap, ◌∙◌, subst, inl, inr, arith, Option, Some, None, All}
use Rattle.std.specs.Prelude.{nat_abs, IfSome, option_map}
use Rattle.std.specs.List.{find}
use Rattle.obf_text.proofs.FieldLemmas.{field_from}
use Rattle.std.specs.Ordering.{int_eq}
use Rattle.std.proofs.lemmas.Int.{ints}
use Rattle.std.proofs.lemmas.Bool.{cases_Bool}
use Rattle.std.proofs.lemmas.List.Elements.{All-tail}
use Rattle.obf_text.specs.Fields.{Field, IsField, IsSigned, field_of}
use Rattle.scored_lines.specs.Checks.{same_move, wrong, wrong_if, wrong_in}
use Rattle.scored_lines.specs.declared.checks.Wrong.{Wrong}

abbrev pub IsSmall : Field → Type 0
IsSmall f = nat_abs f.1 < 100

abs-neg : (n : ℕ) → nat_abs (neg_ℤ (pos n)) ≡ n
abs-neg n = omega (arith, ints)

size_signed : (sign : List ℕ) (size : ℕ) (z : ℤ) → IsSigned sign size z → nat_abs z ≡ size
size_signed sign size z (inl h) = ap nat_abs h.1 ∙ abs-neg size
size_signed sign size z (inr h) = ap nat_abs h.1

field_small : (piece : List ℕ) (f : Field) → IsField piece f → IsSmall f
field_small piece f h =
    let t = h.is_score_text in
    let s = size_signed t.sign t.size f.1 t.signed in
    let w = t.within in
    omega (arith, s, w)

pub claim_small : (piece : List ℕ) (f : Field) → field_of piece ≡ Some f → IsSmall f
claim_small piece f e = field_small piece f (field_from piece f e)

-- a score that is found among small scores is small
find_all : (R : Field → Type 0) (p : Field → Bool) (xs : List Field) (f : Field) → All R xs
    → find p xs ≡ Some f → R f
find_all R p [] f all e = cc
find_all R p (x ∷ xs) f all e =
    elim (cases_Bool (p x)) [
      | inl b ↦ let same : Some x ≡ Some f = (rw b at e) in let one : x ≡ f = cc in
          subst R one (all 0 x (omega arith))
      | inr b ↦ find_all R p xs f (All-tail R x xs all) (rw b at e)
    ]

small_if : (f : Field) (o : Option Field) (w : Wrong) → ((x : Field) → o ≡ Some x → IsSmall x)
    → wrong_if f (option_map (λ x. x.1) o) ≡ Some w → IfSome w.score (λ z. nat_abs z < 100)
small_if f None w h e = let k : wrong f None ≡ w = cc in
    subst (λ (v : Wrong). IfSome v.score (λ z. nat_abs z < 100)) k search
small_if f (Some x) w h e =
    elim (cases_Bool (int_eq x.1 f.1)) [
      | inl b ↦ let k : None ≡ Some w = (rw b at e) in cc
      | inr b ↦ let j : Some (wrong f (Some x.1)) ≡ Some w = (rw b at e) in
          let k : wrong f (Some x.1) ≡ w = cc in
          subst (λ (v : Wrong). IfSome v.score (λ z. nat_abs z < 100)) k (h x refl)
    ]

pub wrong_small : (scores : List Field) (f : Field) (w : Wrong) → All IsSmall scores
    → wrong_in scores f ≡ Some w → IfSome w.score (λ z. nat_abs z < 100)
wrong_small scores f w all e =
    small_if f (find (λ x. same_move x.0 f.0) scores) w
    (λ x k. find_all IsSmall (λ y. same_move y.0 f.0) scores x all k) e
