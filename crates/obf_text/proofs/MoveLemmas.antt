-- A text is a move exactly where the reader finds one.
use Rattle.std.proofs.Common.{◌≡◌, ℕ, ◌+◌, ◌*◌, ◌/◌, ◌%◌, ◌<◌, ◌==◌, Bool, true, false, cond, List, [], ◌∷◌, refl, sym}
use Rattle.std.proofs.Common.{inl, inr, ap, ap₂, subst, arith, get_or, Option, Some, None}
use Rattle.std.specs.Prelude.{◌⊎◌, ◌&&◌}
use Rattle.std.proofs.lemmas.Bool.{and_parts, eqb-true}
use Rattle.std.proofs.lemmas.Bool.Decides.{nat_tests}
use Rattle.std.proofs.lemmas.Option.{none-some, same_Some}
use Rattle.othello_rules.specs.Board.{IsNameOf, name_of}
use Rattle.obf_text.specs.Bytes.{is_blank}
use Rattle.obf_text.specs.Fields.{IsMoveText, IsPass, column_of_letter, is_pass, move_of, row_of_digit, square_in}
use Rattle.obf_text.specs.declared.entries.ListedMove.{ListedMove}
use Rattle.obf_text.specs.declared.entries.ListedMove.TheVariants.{At, Pass, Over}

column_is : (k b : ℕ) → k < 8 → (b ≡ 65 + k) ⊎ (b ≡ 97 + k) → column_of_letter b ≡ Some k
column_is k b h (inl e) = grind (arith, nat_tests)
column_is k b h (inr e) = grind (arith, nat_tests)

row_is : (k b : ℕ) → k < 8 → b ≡ 49 + k → row_of_digit b ≡ Some k
row_is k b h e = grind (arith, nat_tests)

column_from : (b k : ℕ) → column_of_letter b ≡ Some k → (k < 8) × ((b ≡ 65 + k) ⊎ (b ≡ 97 + k))
column_from b k e = (grind (arith, nat_tests), grind (arith, nat_tests))

row_from : (b k : ℕ) → row_of_digit b ≡ Some k → (k < 8) × (b ≡ 49 + k)
row_from b k e = (grind (arith, nat_tests), grind (arith, nat_tests))

-- the two bytes of a square's name
named_from : (a b column row : ℕ) → (a ≡ 65 + column) ⊎ (a ≡ 97 + column) → b ≡ 49 + row → column < 8 → row < 8
    → (column + 8 * row < 64) × IsNameOf (a ∷ b ∷ []) (column + 8 * row)
unfolding name_of
named_from a b column row (inl e) f lc lr =
    let low : (column + 8 * row) % 8 ≡ column = omega arith in
    let high : (column + 8 * row) / 8 ≡ row = omega arith in
    (omega arith, inl (rw (low, high, e, f) refl))
named_from a b column row (inr e) f lc lr =
    let low : (column + 8 * row) % 8 ≡ column = omega arith in
    let high : (column + 8 * row) / 8 ≡ row = omega arith in
    (omega arith, inr (rw (low, high, e, f) refl))

square_bytes : (a b q : ℕ) → q < 64 → (a ≡ 65 + q % 8) ⊎ (a ≡ 97 + q % 8) → b ≡ 49 + q / 8 → square_in (column_of_letter a) (row_of_digit b) ≡ Some (At q)
square_bytes a b q h letter digit =
    let low : q % 8 < 8 = omega arith in
    let high : q / 8 < 8 = omega arith in
    let sum : q % 8 + 8 * (q / 8) ≡ q = omega arith in
    rw (column_is (q % 8) a low letter, row_is (q / 8) b high digit) (ap (λ k. Some (At k)) sum)

at_is : (a b q : ℕ) → q < 64 → (a ≡ 65 + q % 8) ⊎ (a ≡ 97 + q % 8) → b ≡ 49 + q / 8 → move_of a b ≡ Some (At q)
at_is a b q h letter digit =
    let low : q % 8 < 8 = omega arith in
    let high : q / 8 < 8 = omega arith in
    let pass : is_pass a b ≡ false = grind (arith, nat_tests) in
    let over : ((a == 45) && (b == 45)) ≡ false = grind (arith, nat_tests) in
    rw (pass, over) (square_bytes a b q h letter digit)

-- two bytes, the first of which is not a blank, that the reader takes for the move
pub record IsRead (text : List ℕ) (m : ListedMove) : Type 0 where
  pub first : ℕ
  pub second : ℕ
  pub whole : text ≡ first ∷ second ∷ []
  pub reads : move_of first second ≡ Some m
  pub content : is_blank first ≡ false

pass_is : (text : List ℕ) → IsPass text → IsRead text Pass
pass_is text h =
    let p = h.p in
    let s = h.s in
    let yes : is_pass h.first h.second ≡ true = grind (arith, nat_tests) in
    record { first = h.first; second = h.second; whole = h.whole; reads = rw yes refl; content = grind (arith, nat_tests) }

square_is : (text : List ℕ) (q letter : ℕ) → q < 64 → text ≡ letter ∷ (49 + q / 8) ∷ [] → (letter ≡ 65 + q % 8) ⊎ (letter ≡ 97 + q % 8) → IsRead text (At q)
square_is text q letter h e is =
    record { first = letter; second = 49 + q / 8; whole = e; reads = at_is letter (49 + q / 8) q h is refl; content = grind (arith, nat_tests) }

pub move_is : (text : List ℕ) (m : ListedMove) → IsMoveText text m → IsRead text m
unfolding name_of
move_is text (At q) (h, inl e) = square_is text q (65 + q % 8) h e (inl refl)
move_is text (At q) (h, inr e) = square_is text q (97 + q % 8) h e (inr refl)
move_is text Pass h = pass_is text h
move_is text Over h = record { first = 45; second = 45; whole = h; reads = refl; content = refl }

pass_from : (a b : ℕ) → is_pass a b ≡ true → IsPass (a ∷ b ∷ [])
pass_from a b e = record { first = a; second = b; whole = refl; p = grind (arith, nat_tests); s = grind (arith, nat_tests) }

square_from : (a b : ℕ) (c r : Option ℕ) (m : ListedMove) → column_of_letter a ≡ c → row_of_digit b ≡ r → square_in c r ≡ Some m → IsMoveText (a ∷ b ∷ []) m
square_from a b None r m d e h = absurd (none-some m h)
square_from a b (Some column) None m d e h = absurd (none-some m h)
square_from a b (Some column) (Some row) m d e h =
    let c = column_from a column d in
    let r = row_from b row e in
    subst (λ n. IsMoveText (a ∷ b ∷ []) n) (same_Some (At (column + 8 * row)) m h) (named_from a b column row c.1 r.1 c.0 r.0)

move_by : (a b : ℕ) (m : ListedMove) (pass over : Bool) → is_pass a b ≡ pass → ((a == 45) && (b == 45)) ≡ over
    → cond pass (Some Pass) (cond over (Some Over) (square_in (column_of_letter a) (row_of_digit b))) ≡ Some m → IsMoveText (a ∷ b ∷ []) m
move_by a b m true over p o h = subst (λ n. IsMoveText (a ∷ b ∷ []) n) (same_Some Pass m h) (pass_from a b p)
move_by a b m false true p o h =
    let bytes = and_parts (a == 45) (b == 45) o in
    subst (λ n. IsMoveText (a ∷ b ∷ []) n) (same_Some Over m h) (ap₂ (λ x y. x ∷ y ∷ []) (eqb-true a 45 bytes.0) (eqb-true b 45 bytes.1))
move_by a b m false false p o h = square_from a b (column_of_letter a) (row_of_digit b) m refl refl h

pub move_from : (a b : ℕ) (m : ListedMove) → move_of a b ≡ Some m → IsMoveText (a ∷ b ∷ []) m
move_from a b m h = move_by a b m (is_pass a b) ((a == 45) && (b == 45)) refl refl h

-- the rules read two bytes as the name of this square
pub square_read : (a b : ℕ) (q : ℕ) → q < 64 → IsNameOf (a ∷ b ∷ []) q → Some (At q) ≡ square_in (column_of_letter a) (row_of_digit b)
unfolding name_of
square_read a b q h (inl e) = sym (square_bytes a b q h (inl (ap (λ t. get_or t 0 0) e)) (ap (λ t. get_or t 1 0) e))
square_read a b q h (inr e) = sym (square_bytes a b q h (inr (ap (λ t. get_or t 0 0) e)) (ap (λ t. get_or t 1 0) e))

no_square : (a b : ℕ) (c r : Option ℕ) → column_of_letter a ≡ c → row_of_digit b ≡ r → ((q : ℕ) → q < 64 → IsNameOf (a ∷ b ∷ []) q → ⊥) → None ≡ square_in c r
no_square a b None r d e h = refl
no_square a b (Some column) None d e h = refl
no_square a b (Some column) (Some row) d e h =
    let c = column_from a column d in
    let r = row_from b row e in
    let named = named_from a b column row c.1 r.1 c.0 r.0 in
    absurd (h (column + 8 * row) named.0 named.1)

-- the rules read two bytes as no square's name
pub square_unread : (a b : ℕ) → ((q : ℕ) → q < 64 → IsNameOf (a ∷ b ∷ []) q → ⊥) → None ≡ square_in (column_of_letter a) (row_of_digit b)
square_unread a b h = no_square a b (column_of_letter a) (row_of_digit b) refl refl h
