-- The masks that end a run: at its ray's lowest square that isn't opposing, or at its highest.
use Rattle.std.proofs.Common.{◌≡◌, ℕ, zero, suc, ◌-◌, ◌*◌, ◌/◌, ◌%◌, ◌^◌, ◌+◌, ◌<◌, ◌≤◌, Bool, true, false, not, ◌&&◌}
use Rattle.std.proofs.Common.{◌||◌, eqb, ltb, ◌⊎◌, ◌≢◌, inl, inr, List, bit_and, bit_or, refl, ap, sym, ◌∙◌, arith}
use mir.Val.{bool_byte}
use Rattle.std.specs.Int.{bit_at, bit_not, w64}
use Rattle.std.proofs.Math.Bool.{and-false, and-true, or-false}
use Rattle.std.proofs.lemmas.Bool.{false≢true, and_parts, or_cases, or_right, cases_eq, cases_lt, eqb-true, eq-eqb, ne_eqb, lt-ltb, le-ltb, ltb-true}
use Rattle.std.proofs.lemmas.Bool.Decides.{nat_tests}
use Rattle.std.proofs.lemmas.Nat.Bits.{bit_at-suc, bit_at_lowest, bit_at-lt, bit_at-trailing_zeros, bit_at_above, bit_at_cat_high}
use Rattle.std.proofs.lemmas.Nat.{and_comm, and_le_l, leading_top, or_lt}
use Rattle.std.specs.Int.Count.{count_trailing_zeros, count_leading_zeros}
use Rattle.othello_rules.specs.Masks.{in_mask}
use Rattle.othello_bits.specs.Shifts.{IsRay, turns}
use Rattle.othello_bits.proofs.Bits.{in_mask-and, in_mask-or, in_mask-not, in_mask-above, in_mask-pow, in_mask-shr, in_mask-zero, none_from_zero, some_square}
use Rattle.othello_bits.proofs.RunEnds.{IsOneWay, below_top, none_turned, rest, rest_fits, turned_before}

even_from : (x : ℕ) → eqb (bit_at x 0) 1 ≡ false → x % 2 ≡ 0
even_from x e =
    let l : x % 2 ≡ bit_at x 0 = sym (bit_at_lowest x) in
    let b : bit_at x 0 < 2 = bit_at-lt x 0 in
    grind (arith, nat_tests)

suc_test : (a b : ℕ) → ltb (suc a) (suc b) ≡ ltb a b
suc_test a b =
    elim (cases_lt a b) [
      | inl l ↦ lt-ltb (suc a) (suc b) (omega arith) ∙ sym (lt-ltb a b l)
      | inr g ↦ le-ltb (suc a) (suc b) (omega arith) ∙ sym (le-ltb a b g)
    ]

-- taking 1 from a number turns the lowest of its bits and all below it
less_one : (t x i : ℕ) → in_mask x t ≡ true → ((j : ℕ) → j < t → in_mask x j ≡ false) → in_mask (x - 1) i ≡ (ltb i t || (in_mask x i && ltb t i))
unfolding in_mask
less_one zero x zero b z =
    let odd : x % 2 ≡ 1 = sym (bit_at_lowest x) ∙ eqb-true (bit_at x 0) 1 b in
    let e : (x - 1) % 2 ≡ 0 = omega arith in
    ap (λ n. eqb n 1) (bit_at_lowest (x - 1) ∙ e) ∙ sym (and-false (eqb (bit_at x 0) 1))
less_one zero x (suc i) b z =
    let odd : x % 2 ≡ 1 = sym (bit_at_lowest x) ∙ eqb-true (bit_at x 0) 1 b in
    let e : (x - 1) / 2 ≡ x / 2 = omega arith in
    ap (λ n. eqb n 1) (bit_at-suc (x - 1) i ∙ ap (λ y. bit_at y i) e ∙ sym (bit_at-suc x i))
    ∙ rw (le-ltb (suc i) 0 (omega arith), lt-ltb 0 (suc i) (omega arith)) (sym (and-true (eqb (bit_at x (suc i)) 1)))
less_one (suc t) x zero b z =
    let even : x % 2 ≡ 0 = even_from x (z 0 (omega arith)) in
    let some : 0 < x =
    elim (cases_lt 0 x) [
      | inl l ↦ l
      | inr l ↦ let none : x ≡ 0 = omega arith in absurd (false≢true (sym (in_mask-zero (suc t)) ∙ ap (λ n. eqb (bit_at n (suc t)) 1) (sym none) ∙ b))
    ] in
    let e : (x - 1) % 2 ≡ 1 = omega arith in
    ap (λ n. eqb n 1) (bit_at_lowest (x - 1) ∙ e) ∙ rw (lt-ltb 0 (suc t) (omega arith))
less_one (suc t) x (suc i) b z =
    let even : x % 2 ≡ 0 = even_from x (z 0 (omega arith)) in
    let e : (x - 1) / 2 ≡ x / 2 - 1 = omega arith in
    rw (suc_test i t, suc_test t i) (ap (λ n. eqb n 1) (bit_at-suc (x - 1) i ∙ ap (λ y. bit_at y i) e)
    ∙ less_one t (x / 2) i (ap (λ n. eqb n 1) (sym (bit_at-suc x t)) ∙ b) (λ j l. ap (λ n. eqb n 1) (sym (bit_at-suc x j)) ∙ z (suc j) (omega arith))
    ∙ ap (λ n. ltb i t || (eqb n 1 && ltb t i)) (sym (bit_at-suc x i)))

one_way_up : IsOneWay ltb
one_way_up i j e = le-ltb j i (let l = ltb-true i j e in omega arith)

one_way_down : IsOneWay (λ i j. ltb j i)
one_way_down i j e = one_way_up j i e

some_rest : (m i : ℕ) → in_mask m i ≡ true → 0 < m
some_rest m i b = elim (cases_lt 0 m) [ inl l ↦ l | inr z ↦ let none : m ≡ 0 = omega arith in absurd (false≢true (sym (none_from_zero m none i) ∙ b)) ]

-- the bits of a mask that has square t alone, where t is own
abbrev IsEnd : ℕ → ℕ → ℕ → Type 0
IsEnd own t end = (i : ℕ) → in_mask end i ≡ (in_mask own t && eqb t i)

own_end : (own t end : ℕ) → end < 2 ^ 64 → IsEnd own t end → (end ≡ 0 → ⊥) → in_mask own t ≡ true
own_end own t end f is n =
    let s = some_square end f n in
    (and_parts (in_mask own t) (eqb t s.0) (sym (is s.0) ∙ s.1)).0

not_own : (own t end : ℕ) → IsEnd own t end → end ≡ 0 → in_mask own t ≡ false
not_own own t end is z = sym (and-true (in_mask own t)) ∙ ap (λ b. in_mask own t && b) (sym (eq-eqb t t refl)) ∙ sym (is t) ∙ none_from_zero end z t

alone : (own t end : ℕ) → IsEnd own t end → in_mask own t ≡ true → (i : ℕ) → in_mask end i ≡ eqb t i
alone own t end is o i = is i ∙ ap (λ b. b && eqb t i) o

-- below the one square of a mask
less_end : (own t end : ℕ) → IsEnd own t end → in_mask own t ≡ true → (i : ℕ) → in_mask (end - 1) i ≡ ltb i t
less_end own t end is o i =
    less_one t end i (alone own t end is o t ∙ eq-eqb t t refl) (λ j l. alone own t end is o j ∙ ne_eqb t j (λ e. absurd (omega arith)))
    ∙ ap (λ b. ltb i t || (b && ltb t i)) (alone own t end is o i) ∙ by (cases_eq t i)
  where
    by : (t ≡ i) ⊎ (t ≢ i) → (ltb i t || (eqb t i && ltb t i)) ≡ ltb i t
    by (inl e) = rw (le-ltb i t (omega arith), le-ltb t i (omega arith)) (and-false (eqb t i))
    by (inr n) = rw (ne_eqb t i n) (or-false (ltb i t))

single : (o : Bool) → ((o && true) && true) ≡ (o && true)
single true = refl
single false = refl

nothing : (o x a : Bool) → ((o && false) && x) ≡ (a && false)
nothing o x a = rw (and-false o, and-false a) refl

past : (o r a : Bool) → ((o && r) && not (false || (r && true))) ≡ (a && false)
past o true a = rw (and-false (o && true), and-false a) refl
past o false a = nothing o true a

module _ (own opp ray : ℕ) (hopp : opp < 2 ^ 64) (hray : ray < 2 ^ 64) (met : List ℕ) where
  end_fits : (m : ℕ) → bit_and (bit_and own (rest opp ray)) m < 2 ^ 64
  end_fits m = omega (arith, and_le_l (bit_and own (rest opp ray)) m, and_comm own (rest opp ray), and_le_l (rest opp ray) own, rest_fits opp ray)

  -- an end is a square of the ray that isn't opposing
  of_rest : (m : ℕ) → (bit_and (bit_and own (rest opp ray)) m ≡ 0 → ⊥) → 0 < rest opp ray
  of_rest m n =
      let s = some_square (bit_and (bit_and own (rest opp ray)) m) (end_fits m) n in
      let p = and_parts (in_mask (bit_and own (rest opp ray)) s.0) (in_mask m s.0) (sym (in_mask-and (bit_and own (rest opp ray)) m s.0) ∙ s.1) in
      some_rest (rest opp ray) s.0 (and_parts (in_mask own s.0) (in_mask (rest opp ray) s.0) (sym (in_mask-and own (rest opp ray) s.0) ∙ p.0)).1

  module _ (ray_is : IsRay ltb ray met) where
    abbrev lower : ℕ
    lower = (rest opp ray + (2 ^ 64 - 1)) % 2 ^ 64

    abbrev lowest_end : ℕ
    lowest_end = bit_and (bit_and own (rest opp ray)) (bit_not w64 lower)

    abbrev Lowest : Type 0
    Lowest = (t : ℕ) × (in_mask (rest opp ray) t ≡ true) × ((j : ℕ) → j < t → in_mask (rest opp ray) j ≡ false) × IsEnd own t lowest_end

    lowest : 0 < rest opp ray → Lowest
    unfolding in_mask
    lowest some =
        let z = bit_at-trailing_zeros w64 (rest opp ray) some (rest_fits opp ray) in
        let t = count_trailing_zeros 64 (rest opp ray) in
        let b : in_mask (rest opp ray) t ≡ true = ap (λ n. eqb n 1) z.1 in
        let n : (j : ℕ) → j < t → in_mask (rest opp ray) j ≡ false = λ j l. ap (λ n. eqb n 1) (z.2 j l) in
        (t, b, n, λ i. is_end t b n i (cases_lt i 64))
      where
        lower_is : (t : ℕ) → in_mask (rest opp ray) t ≡ true → ((j : ℕ) → j < t → in_mask (rest opp ray) j ≡ false)
            → (i : ℕ) → in_mask lower i ≡ (ltb i t || (in_mask (rest opp ray) i && ltb t i))
        lower_is t b n i =
            let e : lower ≡ rest opp ray - 1 = omega (arith, rest_fits opp ray, some_rest (rest opp ray) t b) in
            ap (λ m. in_mask m i) e ∙ less_one t (rest opp ray) i b n

        placed : (t : ℕ) → in_mask (rest opp ray) t ≡ true → ((j : ℕ) → j < t → in_mask (rest opp ray) j ≡ false) → (i : ℕ) → (t ≡ i) ⊎ (t ≢ i)
            → ((in_mask own i && in_mask (rest opp ray) i) && not (ltb i t || (in_mask (rest opp ray) i && ltb t i))) ≡ (in_mask own t && eqb t i)
        placed t b n i (inl e) = rw (← e, b, le-ltb t t (omega arith), eq-eqb t t refl) (single (in_mask own t))
        placed t b n i (inr d) = elim (cases_lt i t) [
          | inl l ↦ rw (n i l, ne_eqb t i d) (nothing (in_mask own i) (not (ltb i t || false)) (in_mask own t))
          | inr g ↦
              let l : t < i = omega arith in
              rw (le-ltb i t g, lt-ltb t i l, ne_eqb t i d) (past (in_mask own i) (in_mask (rest opp ray) i) (in_mask own t))
        ]

        is_end : (t : ℕ) → in_mask (rest opp ray) t ≡ true → ((j : ℕ) → j < t → in_mask (rest opp ray) j ≡ false)
            → (i : ℕ) → (i < 64) ⊎ (64 ≤ i) → in_mask lowest_end i ≡ (in_mask own t && eqb t i)
        is_end t b n i (inl l) =
            let fits : lower < 2 ^ 64 = omega arith in
            rw (in_mask-and (bit_and own (rest opp ray)) (bit_not w64 lower) i, in_mask-and own (rest opp ray) i, in_mask-not lower i fits l, lower_is t b n i)
            (placed t b n i (cases_eq t i))
        is_end t b n i (inr g) =
            let l = below_top (rest opp ray) t (rest_fits opp ray) b in
            in_mask-above lowest_end i (end_fits (bit_not w64 lower)) g ∙ sym (rw (ne_eqb t i (λ e. absurd (omega arith))) (and-false (in_mask own t)))

    ahead_closed : (lowest_end ≡ 0 → ⊥) → (i : ℕ) → in_mask (bit_and ray (lowest_end - 1)) i ≡ turns own opp met i
    ahead_closed h i =
        let f = lowest (of_rest (bit_not w64 lower) h) in
        let t = f.0 in
        let o = own_end own t lowest_end (end_fits (bit_not w64 lower)) f.3 h in
        in_mask-and ray (lowest_end - 1) i ∙ ap (λ b. in_mask ray i && b) (less_end own t lowest_end f.3 o i)
        ∙ sym (turned_before ltb one_way_up own opp ray hopp hray met ray_is t f.1 (λ j l. f.2 j (ltb-true j t l)) i
        ∙ ap (λ c. c && (in_mask ray i && ltb i t)) o)

    ahead_open : lowest_end ≡ 0 → (i : ℕ) → in_mask 0 i ≡ turns own opp met i
    ahead_open h i = in_mask-zero i ∙ sym (elim (cases_lt 0 (rest opp ray)) [
      | inr z ↦
          let none : rest opp ray ≡ 0 = omega arith in
          none_turned ltb one_way_up own opp ray hopp hray met ray_is (none_from_zero (rest opp ray) none) i
      | inl some ↦
          let f = lowest some in
          let t = f.0 in
          turned_before ltb one_way_up own opp ray hopp hray met ray_is t f.1 (λ j l. f.2 j (ltb-true j t l)) i
          ∙ ap (λ c. c && (in_mask ray i && ltb i t)) (not_own own t lowest_end f.3 h)
    ])

    -- an end less one, or nothing where there is no end
    pub below_end : (end : ℕ) → end < 2 ^ 64 → (end + (2 ^ 64 - bool_byte (not (eqb end 0)))) % 2 ^ 64 ≡ end - 1
    below_end end fits = elim (cases_eq end 0) [
      | inl z ↦ rw (eq-eqb end 0 z) (omega (arith, z))
      | inr n ↦ rw (ne_eqb end 0 n) (omega (arith, n, fits))
    ]

    -- where there is no end, nothing lies below it
    ahead : (i : ℕ) → in_mask (bit_and ray (lowest_end - 1)) i ≡ turns own opp met i
    ahead i = elim (cases_eq lowest_end 0) [
      | inr h ↦ ahead_closed h i
      | inl h ↦
          let e : lowest_end - 1 ≡ 0 = omega (arith, h) in
          in_mask-and ray (lowest_end - 1) i ∙ ap (λ m. in_mask ray i && in_mask m i) e ∙ ap (λ b. in_mask ray i && b) (in_mask-zero i)
          ∙ and-false (in_mask ray i) ∙ sym (in_mask-zero i) ∙ ahead_open h i
    ]

    pub ahead_of : (i : ℕ) → in_mask (bit_and ray ((lowest_end + (2 ^ 64 - bool_byte (not (eqb lowest_end 0)))) % 2 ^ 64)) i ≡ turns own opp met i
    ahead_of i = ap (λ m. in_mask (bit_and ray m) i) (below_end lowest_end (end_fits (bit_not w64 lower))) ∙ ahead i

-- the highest bit of a number
abbrev Top : ℕ → Type 0
Top x = (j : ℕ) × (count_leading_zeros 64 x + suc j ≡ 64) × (in_mask x j ≡ true) × ((i : ℕ) → j < i → in_mask x i ≡ false)

top : (x : ℕ) → 0 < x → x < 2 ^ 64 → Top x
unfolding in_mask
top x some fits =
    let f = leading_top 64 x some fits in
    let j = f.0 in
    let e : x ≡ 1 * 2 ^ j + (x - 2 ^ j) = omega (arith, f.2) in
    let l : x - 2 ^ j < 2 ^ j = omega (arith, f.2, f.3) in
    let z : j - j ≡ 0 = omega arith in
    let b : bit_at x j ≡ 1 = ap (λ n. bit_at n j) e ∙ bit_at_cat_high 1 j (x - 2 ^ j) j l (omega arith) ∙ ap (bit_at 1) z in
    (j, f.1, ap (λ n. eqb n 1) b, λ i g. ap (λ n. eqb n 1) (bit_at_above x (suc j) i f.3 (omega arith)))

-- with square 0 beside the others there is a highest one
abbrev with_first : ℕ → ℕ
with_first m = bit_or m 1

is_with_first : (m i : ℕ) → in_mask (with_first m) i ≡ (in_mask m i || eqb 0 i)
is_with_first m i = in_mask-or m 1 i ∙ ap (λ b. in_mask m i || b) (in_mask-pow 0 i)

top_of : (m : ℕ) → m < 2 ^ 64 → Top (with_first m)
top_of m fits =
    let first : in_mask (with_first m) 0 ≡ true = is_with_first m 0 ∙ or_right (in_mask m 0) true refl in
    top (with_first m) (some_rest (with_first m) 0 first) (or_lt 64 m 1 fits (omega arith))

pub shift_fits : (m : ℕ) → m < 2 ^ 64 → count_leading_zeros 64 (with_first m) < 64
shift_fits m fits =
    let t = top_of m fits in
    omega (arith, t.1)

or_parts : (a b : Bool) → (a || b) ≡ false → (a ≡ false) × (b ≡ false)
or_parts true b e = absurd (false≢true (sym e))
or_parts false b e = (refl, e)

module _ (own opp ray : ℕ) (hopp : opp < 2 ^ 64) (hray : ray < 2 ^ 64) (met : List ℕ) (ray_is : IsRay (λ i j. ltb j i) ray met) where
  abbrev marked : ℕ
  marked = with_first (rest opp ray)

  abbrev stop : ℕ
  stop = 9223372036854775808 / 2 ^ count_leading_zeros 64 marked

  abbrev highest_end : ℕ
  highest_end = bit_and (bit_and own (rest opp ray)) stop

  abbrev Highest : Type 0
  Highest = (t : ℕ) × (in_mask (rest opp ray) t ≡ true) × ((j : ℕ) → t < j → in_mask (rest opp ray) j ≡ false) × IsEnd own t highest_end

  highest : 0 < rest opp ray → Highest
  highest some =
      let f = top_of (rest opp ray) (rest_fits opp ray) in
      let t = f.0 in
      let n : (j : ℕ) → t < j → in_mask (rest opp ray) j ≡ false =
      λ j l. (or_parts (in_mask (rest opp ray) j) (eqb 0 j) (sym (is_with_first (rest opp ray) j) ∙ f.3 j l)).0 in
      let s = some_square (rest opp ray) (rest_fits opp ray) (λ z. absurd (omega arith)) in
      let b : in_mask (rest opp ray) t ≡ true = elim (or_cases (in_mask (rest opp ray) t) (eqb 0 t) (sym (is_with_first (rest opp ray) t) ∙ f.2)) [
        | inl e ↦ e
        | inr e ↦
            let zero_is : 0 ≡ t = eqb-true 0 t e in
            elim (cases_eq s.0 t) [
              | inl same ↦ ap (in_mask (rest opp ray)) (sym same) ∙ s.1
              | inr d ↦ absurd (false≢true (sym (n s.0 (omega arith)) ∙ s.1))
            ]
      ] in
      (t, b, n, λ i. rw (in_mask-and (bit_and own (rest opp ray)) stop i, in_mask-and own (rest opp ray) i, stop_is t f.1 i) (placed t b i (cases_eq t i)))
    where
      stop_is : (t : ℕ) → count_leading_zeros 64 marked + suc t ≡ 64 → (i : ℕ) → in_mask stop i ≡ eqb t i
      stop_is t e i =
          in_mask-shr 9223372036854775808 (count_leading_zeros 64 marked) i ∙ in_mask-pow 63 (i + count_leading_zeros 64 marked)
          ∙ elim (cases_eq t i) [
            | inl s ↦ eq-eqb 63 (i + count_leading_zeros 64 marked) (omega arith) ∙ sym (eq-eqb t i s)
            | inr d ↦ ne_eqb 63 (i + count_leading_zeros 64 marked) (λ s. absurd (d (omega arith))) ∙ sym (ne_eqb t i d)
          ]

      placed : (t : ℕ) → in_mask (rest opp ray) t ≡ true → (i : ℕ) → (t ≡ i) ⊎ (t ≢ i)
          → ((in_mask own i && in_mask (rest opp ray) i) && eqb t i) ≡ (in_mask own t && eqb t i)
      placed t b i (inl e) = rw (← e, b, eq-eqb t t refl) (single (in_mask own t))
      placed t b i (inr d) = rw (ne_eqb t i d) (rw (and-false (in_mask own i && in_mask (rest opp ray) i), and-false (in_mask own t)) refl)

  -- a number less one, as it wraps
  abbrev less : ℕ → ℕ
  less end = (end + 18446744073709551615) % 2 ^ 64

  -- the squares of the ray beyond an end: none where there is no end
  abbrev beyond : ℕ → ℕ
  beyond end = bit_and ray (bit_not w64 (bit_or end (less end)))

  above : (i t : ℕ) → not (eqb t i || ltb i t) ≡ ltb t i
  above i t = elim (cases_lt t i) [
    | inl l ↦ rw (lt-ltb t i l, ne_eqb t i (λ e. absurd (omega arith)), le-ltb i t (omega arith))
    | inr g ↦ elim (cases_eq t i) [
      | inl e ↦ rw (eq-eqb t i e, le-ltb t i g)
      | inr d ↦
          let l : i < t = omega arith in
          rw (ne_eqb t i d, lt-ltb i t l, le-ltb t i g)
    ]
  ]

  past_end : (t end : ℕ) → end < 2 ^ 64 → IsEnd own t end → in_mask own t ≡ true → (i : ℕ) → in_mask (beyond end) i ≡ (in_mask ray i && ltb t i)
  past_end t end fits is o i = in_mask-and ray (bit_not w64 (bit_or end (less end))) i ∙ by (cases_lt i 64)
    where
      by : (i < 64) ⊎ (64 ≤ i) → (in_mask ray i && in_mask (bit_not w64 (bit_or end (less end))) i) ≡ (in_mask ray i && ltb t i)
      by (inr g) = rw (in_mask-above ray i hray g)
      by (inl l) =
          let e : less end ≡ end - 1 = omega (arith, fits, some_rest end t (alone own t end is o t ∙ eq-eqb t t refl)) in
          let low_fits : less end < 2 ^ 64 = omega arith in
          ap (λ b. in_mask ray i && b) (in_mask-not (bit_or end (less end)) i (or_lt 64 end (less end) fits low_fits) l ∙ ap not (in_mask-or end (less end) i)
          ∙ ap (λ b. not (b || in_mask (less end) i)) (alone own t end is o i)
          ∙ ap (λ b. not (eqb t i || b)) (ap (λ m. in_mask m i) e ∙ less_end own t end is o i)
          ∙ above i t)

  past_none : (end : ℕ) → end ≡ 0 → (i : ℕ) → in_mask (beyond end) i ≡ false
  past_none end z i = ap (λ e. in_mask (beyond e) i) z ∙ in_mask-and ray 0 i ∙ ap (λ b. in_mask ray i && b) (in_mask-zero i) ∙ and-false (in_mask ray i)

  pub back : (i : ℕ) → in_mask (beyond highest_end) i ≡ turns own opp met i
  back i = elim (cases_eq highest_end 0) [
    | inr h ↦
        let f = highest (of_rest own opp ray hopp hray met stop h) in
        let t = f.0 in
        let o = own_end own t highest_end (end_fits own opp ray hopp hray met stop) f.3 h in
        past_end t highest_end (end_fits own opp ray hopp hray met stop) f.3 o i ∙ sym (turned f i ∙ ap (λ c. c && (in_mask ray i && ltb t i)) o)
    | inl h ↦ past_none highest_end h i ∙ sym (elim (cases_lt 0 (rest opp ray)) [
      | inr z ↦
          let none : rest opp ray ≡ 0 = omega arith in
          none_turned (λ i j. ltb j i) one_way_down own opp ray hopp hray met ray_is (none_from_zero (rest opp ray) none) i
      | inl some ↦
          let f = highest some in
          turned f i ∙ ap (λ c. c && (in_mask ray i && ltb f.0 i)) (not_own own f.0 highest_end f.3 h)
    ])
  ]
    where
      turned : (f : Highest) → (i : ℕ) → turns own opp met i ≡ (in_mask own f.0 && (in_mask ray i && ltb f.0 i))
      turned f i = turned_before (λ i j. ltb j i) one_way_down own opp ray hopp hray met ray_is f.0 f.1 (λ j l. f.2 j (ltb-true f.0 j l)) i
