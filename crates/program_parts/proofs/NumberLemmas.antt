-- The number that clap's `get_one` gives.
use Rattle.std.proofs.Common.{◌≡◌, ◌∙◌, ◌^◌, ◌<◌, ◌≤◌, ◌==◌, Bool, true, false, cond, drop, ℕ, List, [], ◌∷◌, Option}
use Rattle.std.proofs.Common.{Some, None, Ok, Err, ap, refl, sym, subst, arith}
use Rattle.std.specs.Prelude.{IfSome, Result, pos, unwrap_or}
use Rattle.std.specs.Str.Parse.{IsNumeral, ParsesUnsigned, digits_value, starts_with_minus, without_leading_plus}
use Rattle.std.proofs.lemmas.Bool.{ne_eqb}
use Rattle.std.proofs.lemmas.Int.{ints}
use Rattle.std.proofs.lemmas.Str.Parse.{digit_from_value}
use Rattle.clap.specs.Words.{IsSignedIn, ReadsOne, Row, Text, one_of, without_minus}
use Rattle.program_parts.specs.CommandLine.{HasNumber}

-- a number that was read is that of the text that stands for the option
pub number_read : {E : Type 0} (G : Text → Result ℕ E → Type 0) (bits : ℕ) (id : Text) (rows : List Row) (o : Option Text) (r : Option ℕ)
    → o ≡ one_of id rows → (o ≡ None → r ≡ None) → ((t : Text) → o ≡ Some t → ReadsOne G t r)
    → ((t : Text) (x : Result ℕ E) → G t x → ParsesUnsigned bits 10 t x) → IfSome r (λ n. HasNumber id rows n)
number_read G bits id rows None (Some n) is none value only = let bad : Some n ≡ None = none refl in absurd cc
number_read G bits id rows (Some t) (Some n) is none value only =
    let got = only t (Ok n) (value t refl) in
    record { text = t; given = sym is; numeral = got.0.0; value = got.1 }
number_read G bits id rows None None is none value only = search
number_read G bits id rows (Some t) None is none value only = search

-- digits have no sign before them
no_plus : (ds : Text) → IsNumeral 10 ds → without_leading_plus ds ≡ ds
no_plus [] h = refl
no_plus (d ∷ ds) h =
    let plus : (d == 43) ≡ false = ne_eqb _ _ (λ e. omega (arith, digit_from_value d h.1.0)) in
    ap (λ (b : Bool). drop (cond b 1 0) (d ∷ ds)) plus

without_minus-cond : (t : Text) → without_minus t ≡ cond (starts_with_minus t) (drop 1 t) t
without_minus-cond [] = refl
without_minus-cond (x ∷ xs) = go (x == 45)
  where
    go : (b : Bool) → unwrap_or (cond b (Some xs) None) (x ∷ xs) ≡ cond b xs (x ∷ xs)
    go true = refl
    go false = refl

abbrev IsNumeralTo : ℕ → Text → Type 0
IsNumeralTo most t = IsNumeral 10 (without_leading_plus t) × (digits_value 10 (without_leading_plus t) ≤ most)

-- a text that passed a range from 0 is read as the numeral of a number in it
pub numeral_in : (most : ℕ) (t : Text) → IsSignedIn (pos 0) (pos most) t → IsNumeralTo most (without_minus t)
numeral_in most t passed =
    subst (λ (u : Text). IsNumeralTo most u) (sym (without_minus-cond t)) (go (starts_with_minus t) refl)
  where
    go : (b : Bool) → starts_with_minus t ≡ b → IsNumeralTo most (cond (starts_with_minus t) (drop 1 t) t)
    go true minus =
        let low_ok = rw minus at passed.2 in
        let high_ok = rw minus at passed.3 in
        let numeral : IsNumeral 10 (drop 1 t) = rw minus at passed.0 in
        let same = no_plus (drop 1 t) numeral in
        let small : digits_value 10 (drop 1 t) ≤ most = omega (arith, ints) in
        rw (minus, same) (numeral, small)
    go false minus =
        let high_ok = rw minus at passed.3 in
        let numeral = rw minus at passed.0 in
        rw minus (numeral, omega (arith, ints))

-- the number of an option is read, where it has few enough bits
pub number_found : {E : Type 0} (G : Text → Result ℕ E → Type 0) (bits n : ℕ) (id : Text) (rows : List Row) (o : Option Text) (r : Option ℕ)
    → o ≡ one_of id rows → ((t : Text) → o ≡ Some t → ReadsOne G t r)
    → ((t : Text) (x : Result ℕ E) → G t x → ParsesUnsigned bits 10 t x) → n < 2 ^ bits → HasNumber id rows n → r ≡ Some n
number_found {E} G bits n id rows o r is value only small h = go r (value h.text (is ∙ h.given))
  where
    go : (r : Option ℕ) → ReadsOne G h.text r → r ≡ Some n
    go (Some v) read = ap Some ((only h.text (Ok v) read).1 ∙ sym h.value)
    go None read = absurd (only h.text (Err read.0) read.1 (h.numeral, rw (← h.value) small))
