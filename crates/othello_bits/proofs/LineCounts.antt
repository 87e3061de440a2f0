-- How many discs are turned in a line, by tests of all sets of the mover's discs on it.
use Rattle.std.proofs.Common.{◌≡◌, ℕ, zero, suc, ◌+◌, ◌*◌, ◌/◌, ◌%◌, ◌^◌, ◌<◌, Bool, true, false, cond, not, ◌&&◌, ◌||◌}
use Rattle.std.proofs.Common.{eqb, ltb, inl, inr, List, [], ◌∷◌, ◌++◌, slice_index_or, bit_and, refl, ap, sym, ◌∙◌}
use Rattle.std.proofs.Common.{arith}
use Rattle.std.specs.List.{list_all}
use Rattle.std.proofs.Math.Bool.{and-true, and-false}
use Rattle.std.proofs.lemmas.Bool.{agree_below, agree_below_at, ltb-true, false≢true, and_parts, not-true, cases_eq, eq-eqb, ne_eqb, eqb-true}
use Rattle.std.proofs.lemmas.Nat.{and_le_l}
use Rattle.othello_rules.specs.Board.{directions, ray}
use Rattle.othello_rules.specs.Rules.{run, closes}
use Rattle.othello_rules.specs.Masks.{in_mask}
use Rattle.othello_bits.specs.Pos.{mem}
use Rattle.othello_bits.specs.Shifts.{line}
use Rattle.othello_bits.specs.Lasts.{turned_along, turned_by}
use Rattle.othello_bits.specs.declared.mobility.Direction.{Direction}
use Rattle.othello_bits.specs.declared.mobility.Direction.TheVariants.{North, NorthEast, East, SouthEast, South, SouthWest, West, NorthWest}
use Rattle.othello_bits.specs.declared.last_flip.TheConstants.{TURNED_IN_LINE, DIAGONALS}
use Rattle.othello_bits.proofs.Bits.{in_mask-and, in_mask-zero, in_mask-pow}
use Rattle.othello_bits.proofs.Numbers.{number_below, is_number, power_lt}

-- a test holds of each set of these squares, as a mask
unfoldable pub subsets : List ℕ → (ℕ → Bool) → Bool
subsets [] test = test 0
subsets (x ∷ xs) test = subsets xs test && subsets xs (λ m. test (2 ^ x + m))

-- squares of the board, each once
unfoldable pub distinct : List ℕ → Bool
distinct [] = true
distinct (x ∷ xs) = ltb x 64 && (not (mem x xs) && distinct xs)

pub distinct_parts : (x : ℕ) (xs : List ℕ) → distinct (x ∷ xs) ≡ true → (x < 64) × (mem x xs ≡ false) × (distinct xs ≡ true)
unfolding distinct
distinct_parts x xs d =
    let a = and_parts (ltb x 64) (not (mem x xs) && distinct xs) d in
    let b = and_parts (not (mem x xs)) (distinct xs) a.1 in
    (ltb-true x 64 a.0, not-true (mem x xs) b.0, b.1)

-- the number of the squares of a set that pass a test
unfoldable part : (ℕ → Bool) → List ℕ → ℕ
part own [] = 0
part own (x ∷ xs) = cond (own x) (2 ^ x) 0 + part own xs

chosen : (b : Bool) (n rest : ℕ) (test : ℕ → Bool) → test rest ≡ true → test (n + rest) ≡ true → test (cond b n 0 + rest) ≡ true
chosen true n rest test h k = k
chosen false n rest test h k =
    let z : 0 + rest ≡ rest = omega arith in
    ap test z ∙ h

subsets_at : (own : ℕ → Bool) (xs : List ℕ) (test : ℕ → Bool) → subsets xs test ≡ true → test (part own xs) ≡ true
unfolding subsets part
subsets_at own [] test e = e
subsets_at own (x ∷ xs) test e =
    let p = and_parts (subsets xs test) (subsets xs (λ m. test (2 ^ x + m))) e in
    chosen (own x) (2 ^ x) (part own xs) test (subsets_at own xs test p.0) (subsets_at own xs (λ m. test (2 ^ x + m)) p.1)

number_or : (n : ℕ) (f g : ℕ → Bool) → ((i : ℕ) → (f i && g i) ≡ false) → number_below n (λ i. f i || g i) ≡ number_below n f + number_below n g
unfolding number_below
number_or zero f g h = refl
number_or (suc n) f g h = by (number_below n (λ i. f i || g i)) (number_below n f) (number_below n g) (f n) (g n) (number_or n f g h) (h n)
  where
    by : (u x y : ℕ) (a b : Bool) → u ≡ x + y → (a && b) ≡ false → cond (a || b) 1 0 * 2 ^ n + u ≡ (cond a 1 0 * 2 ^ n + x) + (cond b 1 0 * 2 ^ n + y)
    by u x y true true e h = absurd (false≢true (sym h))
    by u x y true false e h = omega arith
    by u x y false true e h = omega arith
    by u x y false false e h = omega arith

number_one : (own : ℕ → Bool) (x : ℕ) → x < 64 → cond (own x) (2 ^ x) 0 ≡ number_below 64 (λ i. eqb x i && own x)
number_one own x l = by (own x)
  where
    by : (b : Bool) → cond b (2 ^ x) 0 ≡ number_below 64 (λ i. eqb x i && b)
    by true = is_number (2 ^ x) (λ i. eqb x i && true) (power_lt x l) (λ i h. in_mask-pow x i ∙ sym (and-true (eqb x i)))
    by false = is_number 0 (λ i. eqb x i && false) (omega arith) (λ i h. in_mask-zero i ∙ sym (and-false (eqb x i)))

part-number : (own : ℕ → Bool) (xs : List ℕ) → distinct xs ≡ true → part own xs ≡ number_below 64 (λ i. own i && mem i xs)
unfolding part
part-number own [] d = is_number 0 (λ i. own i && false) (omega arith) (λ i h. in_mask-zero i ∙ sym (and-false (own i)))
part-number own (x ∷ xs) d =
    let p = distinct_parts x xs d in
    let f : ℕ → Bool = λ i. eqb x i && own x in
    let g : ℕ → Bool = λ i. own i && mem i xs in
    let apart : (i : ℕ) → (f i && g i) ≡ false = λ i. elim (cases_eq x i) [
      | inl e ↦ let n : mem i xs ≡ false = ap (λ j. mem j xs) (sym e) ∙ p.1 in rw n (ap (λ b. f i && b) (and-false (own i)) ∙ and-false (f i))
      | inr n ↦ rw (ne_eqb x i n) refl
    ] in
    let either : (i : ℕ) → (f i || g i) ≡ (own i && (eqb x i || mem i xs)) = λ i. elim (cases_eq x i) [
      | inl e ↦ let n : mem i xs ≡ false = ap (λ j. mem j xs) (sym e) ∙ p.1 in let o : own x ≡ own i = ap own e in rw (n, o, eq-eqb x i e) (first (own i))
      | inr n ↦ rw (ne_eqb x i n) refl
    ] in
    let a : cond (own x) (2 ^ x) 0 + part own xs ≡ number_below 64 f + number_below 64 g = λ k. number_one own x p.0 k + part-number own xs p.2 k in
    a ∙ sym (number_or 64 f g apart) ∙ (λ k. number_below 64 (λ i. either i k))
  where
    first : (o : Bool) → (o || (o && false)) ≡ (o && true)
    first true = refl
    first false = refl

-- only discs on the line count
abbrev on_line : List ℕ → ℕ → Bool
on_line xs x = ltb x 64 && mem x xs

abbrev squares_by : Direction → Direction → ℕ → List ℕ
squares_by h g q = line h q ++ line g q

abbrev is_line : ℕ → Direction → Direction → ℕ → Bool
is_line m h g q = agree_below (λ i. in_mask m i && not (eqb i q)) (λ i. mem i (squares_by h g q)) 64

abbrev counts : Direction → Direction → (ℕ → ℕ) → ℕ → Bool
counts h g count q = subsets (squares_by h g q) (λ d. eqb (count d) (turned_by d h g q))

abbrev holds_line : Direction → Direction → ℕ → Bool
holds_line h g q = distinct (squares_by h g q) && (list_all (on_line (squares_by h g q)) (line h q) && list_all (on_line (squares_by h g q)) (line g q))

both_true : (a b : Bool) → b ≡ true → (a && b) ≡ a
both_true true b e = e
both_true false b e = refl

module _ (m : ℕ) (h g : Direction) (q own : ℕ) (fits : own < 2 ^ 64) (free : in_mask own q ≡ false) (s : is_line m h g q ≡ true) where
  both : (i : ℕ) → i < 64 → (in_mask own i && in_mask m i) ≡ (in_mask own i && mem i (squares_by h g q))
  both i l =
      let e : (in_mask m i && not (eqb i q)) ≡ mem i (squares_by h g q) =
      agree_below_at (λ i. in_mask m i && not (eqb i q)) (λ i. mem i (squares_by h g q)) 64 i s l in
      elim (cases_eq i q) [
        | inl z ↦ let f : in_mask own i ≡ false = ap (in_mask own) z ∙ free in rw f refl
        | inr n ↦ let f : mem i (squares_by h g q) ≡ in_mask m i = sym e ∙ rw (ne_eqb i q n) (and-true (in_mask m i)) in rw f refl
      ]

  masked : bit_and own m ≡ number_below 64 (λ i. in_mask own i && mem i (squares_by h g q))
  masked =
      is_number (bit_and own m) (λ i. in_mask own i && mem i (squares_by h g q)) (omega (arith, and_le_l own m, fits)) (λ i l. in_mask-and own m i ∙ both i l)

  kept : (x : ℕ) → on_line (squares_by h g q) x ≡ true → in_mask (bit_and own m) x ≡ in_mask own x
  kept x t =
      let p = and_parts (ltb x 64) (mem x (squares_by h g q)) t in
      in_mask-and own m x ∙ both x (ltb-true x 64 p.0) ∙ both_true (in_mask own x) (mem x (squares_by h g q)) p.1

  closes-within : (xs : List ℕ) → list_all (on_line (squares_by h g q)) xs ≡ true
      → closes (in_mask (bit_and own m)) (λ i. not (in_mask (bit_and own m) i)) xs ≡ closes (in_mask own) (λ i. not (in_mask own i)) xs
  unfolding closes
  closes-within [] a = refl
  closes-within (x ∷ xs) a =
      let p = and_parts (on_line (squares_by h g q) x) (list_all (on_line (squares_by h g q)) xs) a in
      rw (kept x p.0, closes-within xs p.1)

  run-within : (xs : List ℕ) → list_all (on_line (squares_by h g q)) xs ≡ true
      → run (λ i. not (in_mask (bit_and own m) i)) xs ≡ run (λ i. not (in_mask own i)) xs
  unfolding run
  run-within [] a = refl
  run-within (x ∷ xs) a =
      let p = and_parts (on_line (squares_by h g q) x) (list_all (on_line (squares_by h g q)) xs) a in
      rw (kept x p.0, run-within xs p.1)

  along-within : (xs : List ℕ) → list_all (on_line (squares_by h g q)) xs ≡ true → turned_along (bit_and own m) xs ≡ turned_along own xs
  along-within xs a = rw (closes-within xs a, run-within xs a)

  counted : (count : ℕ → ℕ) → holds_line h g q ≡ true → counts h g count q ≡ true → count (bit_and own m) ≡ turned_by own h g q
  counted count w e =
      let test : ℕ → Bool = λ d. eqb (count d) (turned_by d h g q) in
      let on : ℕ → Bool = on_line (squares_by h g q) in
      let a = and_parts (distinct (squares_by h g q)) (list_all on (line h q) && list_all on (line g q)) w in
      let b = and_parts (list_all on (line h q)) (list_all on (line g q)) a.1 in
      let is : bit_and own m ≡ part (in_mask own) (squares_by h g q) = masked ∙ sym (part-number (in_mask own) (squares_by h g q) a.0) in
      let c : test (bit_and own m) ≡ true = ap test is ∙ subsets_at (in_mask own) (squares_by h g q) test e in
      eqb-true (count (bit_and own m)) (turned_by (bit_and own m) h g q) c ∙ (λ k. along-within (line h q) b.0 k + along-within (line g q) b.1 k)

abbrev found : ℕ → ℕ → ℕ
found place gathered = slice_index_or (slice_index_or TURNED_IN_LINE place []) gathered 0

abbrev row_mask : ℕ → ℕ
row_mask q = 255 * 2 ^ (q / 8 * 8) % 2 ^ 64

abbrev row_count : ℕ → ℕ → ℕ
row_count q d = found (q % 8) (d / 2 ^ (q / 8 * 8) % 256)

row_counts : (q : ℕ) → q < 64 → counts West East (row_count q) q ≡ true
unfolding subsets in_mask directions ray run closes
row_counts q l = agree_below_at (λ q. counts West East (row_count q) q) (λ q. true) 64 q refl l

pub in_row : (q own : ℕ) → q < 64 → own < 2 ^ 64 → in_mask own q ≡ false → row_count q (bit_and own (row_mask q)) ≡ turned_by own West East q
unfolding in_mask directions ray distinct
in_row q own l h free =
    counted (row_mask q) West East q own h free
    (agree_below_at (λ q. is_line (row_mask q) West East q) (λ q. true) 64 q refl l) (row_count q)
    (agree_below_at (holds_line West East) (λ q. true) 64 q refl l)
    (row_counts q l)

abbrev column_mask : ℕ → ℕ
column_mask q = 72340172838076673 * 2 ^ (q % 8) % 2 ^ 64

abbrev column_count : ℕ → ℕ → ℕ
column_count q d = found (q / 8) (d * (72624976668147840 / 2 ^ (q % 8)) % 2 ^ 64 / 2 ^ 56)

column_counts : (q : ℕ) → q < 64 → counts North South (column_count q) q ≡ true
unfolding subsets in_mask directions ray run closes
column_counts q l = agree_below_at (λ q. counts North South (column_count q) q) (λ q. true) 64 q refl l

pub in_column : (q own : ℕ) → q < 64 → own < 2 ^ 64 → in_mask own q ≡ false → column_count q (bit_and own (column_mask q)) ≡ turned_by own North South q
unfolding in_mask directions ray distinct
in_column q own l h free =
    counted (column_mask q) North South q own h free
    (agree_below_at (λ q. is_line (column_mask q) North South q) (λ q. true) 64 q refl l) (column_count q)
    (agree_below_at (holds_line North South) (λ q. true) 64 q refl l)
    (column_counts q l)

abbrev diagonal_mask : ℕ → ℕ → ℕ
diagonal_mask k q = slice_index_or (slice_index_or DIAGONALS q []) k 0

abbrev diagonal_count : ℕ → ℕ → ℕ
diagonal_count q d = found (q % 8) (d * 72340172838076673 % 2 ^ 64 / 2 ^ 56)

falling_counts : (q : ℕ) → q < 64 → counts NorthWest SouthEast (diagonal_count q) q ≡ true
unfolding subsets in_mask directions ray run closes
falling_counts q l = agree_below_at (λ q. counts NorthWest SouthEast (diagonal_count q) q) (λ q. true) 64 q refl l

pub in_falling : (q own : ℕ) → q < 64 → own < 2 ^ 64 → in_mask own q ≡ false
    → diagonal_count q (bit_and own (diagonal_mask 0 q)) ≡ turned_by own NorthWest SouthEast q
unfolding in_mask directions ray distinct
in_falling q own l h free =
    counted (diagonal_mask 0 q) NorthWest SouthEast q own h free
    (agree_below_at (λ q. is_line (diagonal_mask 0 q) NorthWest SouthEast q) (λ q. true) 64 q refl l) (diagonal_count q)
    (agree_below_at (holds_line NorthWest SouthEast) (λ q. true) 64 q refl l)
    (falling_counts q l)

rising_counts : (q : ℕ) → q < 64 → counts SouthWest NorthEast (diagonal_count q) q ≡ true
unfolding subsets in_mask directions ray run closes
rising_counts q l = agree_below_at (λ q. counts SouthWest NorthEast (diagonal_count q) q) (λ q. true) 64 q refl l

pub in_rising : (q own : ℕ) → q < 64 → own < 2 ^ 64 → in_mask own q ≡ false
    → diagonal_count q (bit_and own (diagonal_mask 1 q)) ≡ turned_by own SouthWest NorthEast q
unfolding in_mask directions ray distinct
in_rising q own l h free =
    counted (diagonal_mask 1 q) SouthWest NorthEast q own h free
    (agree_below_at (λ q. is_line (diagonal_mask 1 q) SouthWest NorthEast q) (λ q. true) 64 q refl l) (diagonal_count q)
    (agree_below_at (holds_line SouthWest NorthEast) (λ q. true) 64 q refl l)
    (rising_counts q l)
