-- A line is safe on the squares that `safe_alone` and `held` find by shifts of masks.
use Rattle.std.proofs.Common.{◌≡◌, ℕ, ◌<◌, Bool, true, false, cond, not, ◌&&◌, ◌||◌, eqb, ltb, List, [], ◌∷◌, refl, ap, sym, ◌∙◌, inl, inr}
use Rattle.std.specs.Int.{bit_not, w64}
use Rattle.std.specs.List.{list_any, list_all}
use Rattle.std.proofs.lemmas.Bool.{agree_below_at, cases_Bool, false≢true, and_parts, or_cases, eqb-true, ltb-true}
use Rattle.othello_rules.specs.Board.{directions, ray}
use Rattle.othello_rules.specs.Masks.{in_mask}
use Rattle.othello_rules.specs.Rules.{closes, run, turned_on, is_nonempty}
use Rattle.othello_rules.specs.Stable.{is_backed, IsSafe}
use Rattle.othello_bits.specs.Shifts.{line, opposite, back, can, inside}
use Rattle.othello_bits.specs.declared.mobility.Direction.{Direction}
use Rattle.othello_bits.specs.declared.mobility.Direction.TheVariants.{North, NorthEast, East, SouthEast, South, SouthWest, West, NorthWest}

-- a bit moves to i, in this direction, from a mask of all squares
abbrev pub comes : Direction → ℕ → Bool
comes h i = can h i && in_mask (bit_not w64 0) (back h i)

-- i has neighbours on both sides, in this direction and the opposite one
abbrev pub is_between : Direction → ℕ → Bool
is_between h i = (comes h i && comes (opposite h) i) && inside h i

-- the first square met is p, and all are on the board
abbrev begins : ℕ → List ℕ → Bool
begins p [] = false
begins p (x ∷ xs) = eqb x p && list_all (λ y. ltb y 64) (x ∷ xs)

abbrev is_edge : List ℕ → Bool
is_edge [] = true
is_edge (_ ∷ _) = false

abbrev fits : Direction → ℕ → Bool
fits h i =
    cond (is_between h i) (begins (back (opposite h) i) (line h i) && begins (back h i) (line (opposite h) i))
    (is_edge (line h i) || is_edge (line (opposite h) i))

fits_all : (h : Direction) (i : ℕ) → i < 64 → fits h i ≡ true
unfolding in_mask directions ray
fits_all North i l = agree_below_at (fits North) (λ i. true) 64 i refl l
fits_all NorthEast i l = agree_below_at (fits NorthEast) (λ i. true) 64 i refl l
fits_all East i l = agree_below_at (fits East) (λ i. true) 64 i refl l
fits_all SouthEast i l = agree_below_at (fits SouthEast) (λ i. true) 64 i refl l
fits_all South i l = agree_below_at (fits South) (λ i. true) 64 i refl l
fits_all SouthWest i l = agree_below_at (fits SouthWest) (λ i. true) 64 i refl l
fits_all West i l = agree_below_at (fits West) (λ i. true) 64 i refl l
fits_all NorthWest i l = agree_below_at (fits NorthWest) (λ i. true) 64 i refl l

edge-backed : (f : ℕ → Bool) (xs : List ℕ) → is_edge xs ≡ true → is_backed f xs ≡ true
edge-backed f [] h = refl
edge-backed f (x ∷ xs) h = absurd (false≢true h)

begins-backed : (f : ℕ → Bool) (p : ℕ) (xs : List ℕ) → begins p xs ≡ true → is_backed f xs ≡ f p
begins-backed f p [] h = absurd (false≢true h)
begins-backed f p (x ∷ xs) h = ap f (eqb-true x p (and_parts (eqb x p) (list_all (λ y. ltb y 64) (x ∷ xs)) h).0)

-- what is met from a square whose neighbour is not free, if no free square is met beyond
module _ (free taken : ℕ → Bool) (others : (x : ℕ) → x < 64 → taken x ≡ not (free x)) where
  closes-any : (xs : List ℕ) → list_all (λ y. ltb y 64) xs ≡ true → closes free taken xs ≡ list_any free xs
  unfolding closes
  closes-any [] a = refl
  closes-any (x ∷ xs) a =
      let p = and_parts (ltb x 64) (list_all (λ y. ltb y 64) xs) a in
      elim (cases_Bool (free x)) [
        | inl f ↦ let t : taken x ≡ false = others x (ltb-true x 64 p.0) ∙ ap not f in rw (t, f) refl
        | inr f ↦ let t : taken x ≡ true = others x (ltb-true x 64 p.0) ∙ ap not f in rw (t, f) (closes-any xs p.1)
      ]

  none-met : (p : ℕ) (xs : List ℕ) → begins p xs ≡ true → free p ≡ false → is_nonempty (turned_on free taken xs) ≡ false → list_any free xs ≡ false
  unfolding closes run
  none-met p [] b n m = refl
  none-met p (x ∷ xs) b n m =
      let q = and_parts (eqb x p) (list_all (λ y. ltb y 64) (x ∷ xs)) b in
      let r = and_parts (ltb x 64) (list_all (λ y. ltb y 64) xs) q.1 in
      let f : free x ≡ false = ap free (eqb-true x p q.0) ∙ n in
      let t : taken x ≡ true = others x (ltb-true x 64 r.0) ∙ ap not f in
      elim (cases_Bool (closes free taken xs)) [
        | inl c ↦ let e : true ≡ false = rw (t, c) at m in absurd (false≢true (sym e))
        | inr c ↦ rw f (sym (closes-any xs r.1) ∙ c)
      ]

module _ (h : Direction) (i : ℕ) (l : i < 64) where
  abbrev ahead : List ℕ
  ahead = line h i

  abbrev behind : List ℕ
  behind = line (opposite h) i

  -- a line ends at a square that has not both neighbours
  ended : (free set : ℕ → Bool) → is_between h i ≡ false → IsSafe free set ahead behind
  ended free set n =
      let e = fits_all h i l in
      elim (or_cases (is_edge ahead) (is_edge behind) (rw n at e)) [
        | inl a ↦ inl (edge-backed set ahead a)
        | inr b ↦ inr (inl (edge-backed set behind b))
      ]

  neighbours : is_between h i ≡ true → (begins (back (opposite h) i) ahead ≡ true) × (begins (back h i) behind ≡ true)
  neighbours n = let e = fits_all h i l in and_parts (begins (back (opposite h) i) ahead) (begins (back h i) behind) (rw n at e)

  -- a free square is next to i, or beyond the squares next to it
  abbrev pub beside : (ℕ → Bool) → Bool
  beside free = (can h i && free (back h i)) || (can (opposite h) i && free (back (opposite h) i))

  abbrev pub beyond : (ℕ → Bool) → (ℕ → Bool) → Bool
  beyond free taken = is_nonempty (turned_on free taken ahead) || is_nonempty (turned_on free taken behind)

  pub alone-safe : (free taken : ℕ → Bool) → ((x : ℕ) → x < 64 → taken x ≡ not (free x))
      → (((comes h i && comes (opposite h) i) && (beside free || beyond free taken)) && inside h i) ≡ false → IsSafe free (λ q. false) ahead behind
  alone-safe free taken others none =
      elim (cases_Bool (is_between h i)) [
        | inr n ↦ ended free (λ q. false) n
        | inl n ↦
            let p = and_parts (comes h i && comes (opposite h) i) (inside h i) n in
            let both = and_parts (comes h i) (comes (opposite h) i) p.0 in
            let c1 : can h i ≡ true = (and_parts (can h i) (in_mask (bit_not w64 0) (back h i)) both.0).0 in
            let c2 : can (opposite h) i ≡ true = (and_parts (can (opposite h) i) (in_mask (bit_not w64 0) (back (opposite h) i)) both.1).0 in
            let first = neighbours n in
            let met =
            parts (free (back h i)) (free (back (opposite h) i)) (is_nonempty (turned_on free taken ahead)) (is_nonempty (turned_on free taken behind))
            (rw (p.0, p.1, c1, c2) at none) in
            let a : list_any free ahead ≡ false = none-met free taken others (back (opposite h) i) ahead first.0 met.1 met.2 in
            let b : list_any free behind ≡ false = none-met free taken others (back h i) behind first.1 met.0 met.3 in
            inr (inr (rw (a, b) refl))
      ]
    where
      parts : (a b c d : Bool) → ((true && ((a || b) || (c || d))) && true) ≡ false → (a ≡ false) × (b ≡ false) × (c ≡ false) × (d ≡ false)
      parts false false false false e = (refl, refl, refl, refl)
      parts true b c d e = absurd (false≢true (sym e))
      parts false true c d e = absurd (false≢true (sym e))
      parts false false true d e = absurd (false≢true (sym e))
      parts false false false true e = absurd (false≢true (sym e))

  pub held-safe : (free set : ℕ → Bool) (alone : Bool) → (alone ≡ true → IsSafe free (λ q. false) ahead behind)
      → (alone || beside set) ≡ true → IsSafe free set ahead behind
  held-safe free set alone safe held =
      let n1 = can h i && set (back h i) in
      let n2 = can (opposite h) i && set (back (opposite h) i) in
      elim (or_cases alone (n1 || n2) held) [
        | inl c ↦
            elim (safe c) [
              | inl a ↦ inl (at_edge ahead a)
              | inr r ↦ elim r [ inl b ↦ inr (inl (at_edge behind b)) | inr none ↦ inr (inr none) ]
            ]
        | inr n ↦
            elim (cases_Bool (is_between h i)) [
              | inr e ↦ ended free set e
              | inl e ↦
                  let first = neighbours e in
                  elim (or_cases n1 n2 n) [
                    | inl a ↦ inr (inl (begins-backed set (back h i) behind first.1 ∙ (and_parts (can h i) (set (back h i)) a).1))
                    | inr b ↦ inl (begins-backed set (back (opposite h) i) ahead first.0 ∙ (and_parts (can (opposite h) i) (set (back (opposite h) i)) b).1)
                  ]
            ]
      ]
    where
      at_edge : (xs : List ℕ) → is_backed (λ q. false) xs ≡ true → is_backed set xs ≡ true
      at_edge [] h = refl
      at_edge (x ∷ xs) h = absurd (false≢true h)
