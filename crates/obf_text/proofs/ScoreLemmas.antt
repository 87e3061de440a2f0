-- A text is a score exactly where the reader finds one.
use Rattle.std.proofs.Common.{◌≡◌, ℕ, ℤ, pos, ◌+◌, ◌-◌, ◌*◌, ◌<◌, ◌≤◌, ◌==◌, Bool, true, false, cond, List, [], ◌∷◌}
use Rattle.std.proofs.Common.{◌++◌, length, refl, sym, inl, inr, ap, subst, arith, get_or, Option, Some, None}
use Rattle.std.specs.Prelude.{neg_ℤ}
use Rattle.std.specs.Option.{option_map}
use Rattle.std.proofs.lemmas.Bool.{eqb-true}
use Rattle.std.proofs.lemmas.Bool.Decides.{nat_tests}
use Rattle.std.proofs.lemmas.Option.{none-some, same_Some}
use Rattle.obf_text.specs.Bytes.{is_blank}
use Rattle.obf_text.specs.Fields.{IsDigit, IsNumber, IsScoreText, IsSigned, IsTwoDigits, at_most_64, digit_of, score_of_text, magnitude_of, two_digit_magnitude}

digit_is : (b d : ℕ) → IsDigit b d → digit_of b ≡ Some d
digit_is b d h = let e : b ≡ 48 + d = h.0 in let le : d ≤ 9 = h.1 in grind (arith, nat_tests)

digit_from : (b d : ℕ) → digit_of b ≡ Some d → IsDigit b d
digit_from b d e = (grind (arith, nat_tests), grind (arith, nat_tests))

within_is : (n : ℕ) → n ≤ 64 → at_most_64 n ≡ Some n
within_is n h = grind (arith, nat_tests)

within_from : (m n : ℕ) → at_most_64 m ≡ Some n → (m ≡ n) × (n ≤ 64)
within_from m n e = (grind (arith, nat_tests), grind (arith, nat_tests))

size_is : (digits : List ℕ) (n : ℕ) → IsNumber digits n → n ≤ 64 → magnitude_of digits ≡ Some n
size_is [] n h le = absurd h
size_is (a ∷ []) n h le = digit_is a n h
size_is (a ∷ b ∷ []) n h le = rw (digit_is a h.tens h.first_digit, digit_is b h.ones h.second_digit, ← h.value) (within_is n le)
size_is (a ∷ b ∷ c ∷ more) n h le = absurd h

two_from : (a b : ℕ) (s t : Option ℕ) (n : ℕ) → digit_of a ≡ s → digit_of b ≡ t → two_digit_magnitude s t ≡ Some n → IsTwoDigits a b n × (n ≤ 64)
two_from a b None t n d e f = absurd (none-some n f)
two_from a b (Some x) None n d e f = absurd (none-some n f)
two_from a b (Some x) (Some y) n d e f =
    let both_facts = within_from (10 * x + y) n f in
    (record { tens = x; ones = y; first_digit = digit_from a x d; second_digit = digit_from b y e; value = sym both_facts.0 }, both_facts.1)

size_from : (digits : List ℕ) (n : ℕ) → magnitude_of digits ≡ Some n → IsNumber digits n × (n ≤ 64)
size_from [] n e = absurd (none-some n e)
size_from (a ∷ []) n e = let h = digit_from a n e in let le : n ≤ 9 = h.1 in (h, omega arith)
size_from (a ∷ b ∷ []) n e = two_from a b (digit_of a) (digit_of b) n refl refl e
size_from (a ∷ b ∷ c ∷ more) n e = absurd (none-some n e)

-- the first byte of a number is a digit
number_first : (a : ℕ) (digits : List ℕ) (n : ℕ) → IsNumber (a ∷ digits) n → (48 ≤ a) × (a ≤ 57)
number_first a [] n h = let e : a ≡ 48 + n = h.0 in let le : n ≤ 9 = h.1 in (omega arith, omega arith)
number_first a (b ∷ []) n h = let e = h.first_digit.0 in let le = h.first_digit.1 in (omega arith, omega arith)
number_first a (b ∷ c ∷ more) n h = absurd h

unsigned_is : (digits : List ℕ) (n : ℕ) → IsNumber digits n → n ≤ 64 → score_of_text digits ≡ Some (pos n)
unsigned_is [] n h le = absurd h
unsigned_is (a ∷ digits) n h le =
    let first = number_first a digits n h in
    let low : 48 ≤ a = first.0 in
    let plus : (a == 43) ≡ false = grind (arith, nat_tests) in
    let minus : (a == 45) ≡ false = grind (arith, nat_tests) in
    rw (plus, minus, size_is (a ∷ digits) n h le) refl

score_by : (sign digits : List ℕ) (n : ℕ) (z : ℤ) → IsNumber digits n → n ≤ 64 → IsSigned sign n z → score_of_text (sign ++ digits) ≡ Some z
score_by sign digits n z h le (inl s) = rw (s.0, s.1, size_is digits n h le) refl
score_by sign digits n z h le (inr (inl e, v)) = rw (e, v, size_is digits n h le) refl
score_by sign digits n z h le (inr (inr e, v)) = rw (e, v) (unsigned_is digits n h le)

pub score_is : (text : List ℕ) (z : ℤ) → IsScoreText text z → score_of_text text ≡ Some z
score_is text z s = rw s.whole (score_by s.sign s.digits s.size z s.number s.within s.signed)

signed_from : (sign digits : List ℕ) (o : Option ℕ) (f : ℕ → ℤ) (z : ℤ) → magnitude_of digits ≡ o → ((n : ℕ) → IsSigned sign n (f n)) → option_map f o ≡ Some z
    → IsScoreText (sign ++ digits) z
signed_from sign digits None f z e s h = absurd (none-some z h)
signed_from sign digits (Some n) f z e s h =
    let read = size_from digits n e in
    record {
      sign = sign;
      digits = digits;
      size = n;
      whole = refl;
      number = read.0;
      within = read.1;
      signed = subst (λ y. IsSigned sign n y) (same_Some (f n) z h) (s n);
    }

score_from_parts : (sign : ℕ) (digits : List ℕ) (z : ℤ) (plus minus : Bool) → (sign == 43) ≡ plus → (sign == 45) ≡ minus
    → cond plus (option_map pos (magnitude_of digits))
    (cond minus (option_map (λ n. neg_ℤ (pos n)) (magnitude_of digits)) (option_map pos (magnitude_of (sign ∷ digits)))) ≡ Some z
    → IsScoreText (sign ∷ digits) z
score_from_parts sign digits z true minus p m h =
    let is : sign ≡ 43 = eqb-true sign 43 p in
    signed_from (sign ∷ []) digits (magnitude_of digits) pos z refl (λ n. inr (inl (ap (λ b. b ∷ []) is), refl)) h
score_from_parts sign digits z false true p m h =
    let is : sign ≡ 45 = eqb-true sign 45 m in
    signed_from (sign ∷ []) digits (magnitude_of digits) (λ n. neg_ℤ (pos n)) z refl (λ n. inl (ap (λ b. b ∷ []) is, refl)) h
score_from_parts sign digits z false false p m h = signed_from [] (sign ∷ digits) (magnitude_of (sign ∷ digits)) pos z refl (λ n. inr (inr refl, refl)) h

pub score_from : (text : List ℕ) (z : ℤ) → score_of_text text ≡ Some z → IsScoreText text z
score_from [] z e = absurd (none-some z e)
score_from (sign ∷ digits) z e = score_from_parts sign digits z (sign == 43) (sign == 45) refl refl e

digit_content : (b d : ℕ) → IsDigit b d → is_blank b ≡ false
digit_content b d h = let e : b ≡ 48 + d = h.0 in grind (arith, nat_tests)

-- a number is not empty, and its last byte is not a blank
pub number_last : (digits : List ℕ) (n : ℕ) → IsNumber digits n → (0 < length digits) × (is_blank (get_or digits (length digits - 1) 0) ≡ false)
number_last [] n h = absurd h
number_last (a ∷ []) n h = (omega arith, digit_content a n h)
number_last (a ∷ b ∷ []) n h = (omega arith, digit_content b h.ones h.second_digit)
number_last (a ∷ b ∷ c ∷ more) n h = absurd h
