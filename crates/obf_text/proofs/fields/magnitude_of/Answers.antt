use Rattle.std.proofs.Common.{◌≡◌, ℕ, ◌+◌, ◌*◌, ◌<◌, ◌≤◌, ◌∙◌, List, [], ◌∷◌, length, get_or, refl, sym, arith, Some}
use Rattle.std.proofs.lemmas.Bool.{le-leb}
use Rattle.obf_text.specs.Fields.{digit_of, magnitude_of}
use Rattle.obf_text.proofs.fields.magnitude_of.Goals as goal

two_digits : (digits : List ℕ) (x y tens ones : ℕ) → 2 ≤ length digits → length digits < 3 → digit_of (get_or digits 0 x) ≡ Some tens
    → digit_of (get_or digits 1 y) ≡ Some ones → 10 * tens + ones ≤ 64 → Some (10 * tens + ones) ≡ magnitude_of digits
two_digits [] x y tens ones l h t o le = absurd (omega arith)
two_digits (a ∷ []) x y tens ones l h t o le = absurd (omega arith)
two_digits (a ∷ b ∷ []) x y tens ones l h t o le = rw (t, o, le-leb _ _ le) refl
two_digits (a ∷ b ∷ d ∷ more) x y tens ones l h t o le = absurd (omega arith)

pub returns-then-size-le-GREATEST_SIZE-clause-value : goal.returns-then-size-le-GREATEST_SIZE-clause-value
returns-then-size-le-GREATEST_SIZE-clause-value c =
    two_digits c.args.digits.now _ _ c.in_ok-tens-in-len2.tens c.in_ok-ones-in-len2.ones c.in-len2.len_at_least c.in-len2.len_below
    (sym c.digit_of-in-len2.ensures.value ∙ c.in_ok-tens-in-len2.was) (sym c.digit_of-in-len2-2.ensures.value ∙ c.in_ok-ones-in-len2.was)
    c.if-size-le-GREATEST_SIZE.true

pub returns-then-size-le-GREATEST_SIZE-clause-small : goal.returns-then-size-le-GREATEST_SIZE-clause-small
returns-then-size-le-GREATEST_SIZE-clause-small c = c.if-size-le-GREATEST_SIZE.true
