-- On a line of squares in an order, the first square that isn't opposing ends the run.
use Rattle.std.proofs.Common.{◌≡◌, ℕ, ◌^◌, ◌<◌, ◌≤◌, Bool, true, false, cond, not, ◌&&◌, ◌||◌, eqb, ltb, inl, inr, List}
use Rattle.std.proofs.Common.{[], ◌∷◌, bit_and, refl, ap, sym, ◌∙◌, arith}
use Rattle.std.specs.Int.{bit_not, w64}
use Rattle.std.specs.List.{list_all}
use Rattle.std.proofs.lemmas.Bool.{false≢true, and_parts, or_left, or_right, cases_Bool, cases_eq, cases_lt, not-true, eqb-true, eq-eqb, ne_eqb, ltb-true}
use Rattle.std.proofs.lemmas.Bool.Decides.{nat_tests}
use Rattle.std.proofs.lemmas.Nat.{and_comm, and_le_l}
use Rattle.othello_rules.specs.Rules.{run, closes}
use Rattle.othello_rules.specs.Masks.{in_mask}
use Rattle.othello_bits.specs.Shifts.{IsRay, in_order, turns}
use Rattle.othello_bits.specs.Pos.{mem}
use Rattle.othello_bits.proofs.Bits.{in_mask-and, in_mask-not, in_mask-above}

order_parts : (before : ℕ → ℕ → Bool) (s : ℕ) (ss : List ℕ) → in_order before (s ∷ ss) ≡ true
    → (s < 64) × (list_all (before s) ss ≡ true) × (in_order before ss ≡ true)
unfolding in_order
order_parts before s ss r =
    let p = and_parts (ltb s 64) (list_all (before s) ss && in_order before ss) r in
    let o = and_parts (list_all (before s) ss) (in_order before ss) p.1 in
    (ltb-true s 64 p.0, o.0, o.1)

pub each : (f : ℕ → Bool) (xs : List ℕ) → list_all f xs ≡ true → (i : ℕ) → mem i xs ≡ true → f i ≡ true
each f [] a i m = absurd (false≢true m)
each f (x ∷ xs) a i m =
    let p = and_parts (f x) (list_all f xs) a in
    elim (cases_eq x i) [
      | inl e ↦ ap f (sym e) ∙ p.0
      | inr n ↦ each f xs p.1 i (rw (ne_eqb x i n) at m)
    ]

above_none : (before : ℕ → ℕ → Bool) (i : ℕ) (xs : List ℕ) → in_order before xs ≡ true → 64 ≤ i → mem i xs ≡ false
above_none before i [] r l = refl
above_none before i (s ∷ ss) r l =
    let p = order_parts before s ss r in
    rw (ne_eqb s i (λ e. absurd (omega arith)), above_none before i ss p.2 l)

joins : (e m l : Bool) → (e ≡ true → l ≡ true) → (e || (m && l)) ≡ ((e || m) && l)
joins false m l h = refl
joins true m l h = sym (h refl)

nowhere : (e m b : Bool) → (e ≡ true → b ≡ false) → (m ≡ true → b ≡ false) → false ≡ ((e || m) && b)
nowhere true m b h k = sym (h refl)
nowhere false true b h k = sym (k refl)
nowhere false false b h k = refl

unclosed : (own opp : ℕ → Bool) (xs : List ℕ) → ((i : ℕ) → mem i xs ≡ true → opp i ≡ true) → closes own opp xs ≡ false
unfolding closes
unclosed own opp [] h = refl
unclosed own opp (s ∷ ss) h = rw (h s (or_left (eqb s s) (mem s ss) (eq-eqb s s refl)), unclosed own opp ss (λ i m. h i (or_right (eqb s i) (mem i ss) m)))

-- of two squares at most one comes before the other
abbrev pub IsOneWay : (ℕ → ℕ → Bool) → Type 0
IsOneWay before = (i j : ℕ) → before i j ≡ true → before j i ≡ false

module _ (before : ℕ → ℕ → Bool) (one_way : IsOneWay before) (own opp : ℕ → Bool) (t : ℕ) (stop : opp t ≡ false) where
  abbrev Ends : List ℕ → Type 0
  Ends xs = (closes own opp xs ≡ own t) × ((i : ℕ) → mem i (run opp xs) ≡ (mem i xs && before i t))

  not_itself : before t t ≡ false
  not_itself = elim (cases_Bool (before t t)) [ inl e ↦ one_way t t e | inr e ↦ e ]

  here : (s : ℕ) (ss : List ℕ) → s ≡ t → list_all (before s) ss ≡ true → Ends (s ∷ ss)
  unfolding closes run
  here s ss e a =
      let o : opp s ≡ false = ap opp e ∙ stop in (
        rw o (ap own e),
        λ i. rw o
            (nowhere (eqb s i) (mem i ss) (before i t) (λ f. ap (λ x. before x t) (sym (eqb-true s i f) ∙ e) ∙ not_itself)
            (λ m. ap (before i) (sym e) ∙ one_way s i (each (before s) ss a i m))),
      )

  beyond : (s : ℕ) (ss : List ℕ) → before s t ≡ true → opp s ≡ true → Ends ss → Ends (s ∷ ss)
  unfolding closes run
  beyond s ss l o ih = (
    rw o ih.0,
    λ i. rw (o, ih.1 i) (joins (eqb s i) (mem i ss) (before i t) (λ e. ap (λ x. before x t) (sym (eqb-true s i e)) ∙ l)),
  )

  ends : (xs : List ℕ) → in_order before xs ≡ true → mem t xs ≡ true → ((i : ℕ) → before i t ≡ true → mem i xs ≡ true → opp i ≡ true) → Ends xs
  ends [] r m h = absurd (false≢true m)
  ends (s ∷ ss) r m h =
      let p = order_parts before s ss r in
      elim (cases_eq s t) [
        | inl e ↦ here s ss e p.1
        | inr n ↦
            let later : mem t ss ≡ true = rw (ne_eqb s t n) at m in
            let l : before s t ≡ true = each (before s) ss p.1 t later in
            beyond s ss l (h s l (or_left (eqb s s) (mem s ss) (eq-eqb s s refl))) (ends ss p.2 later (λ i l m. h i l (or_right (eqb s i) (mem i ss) m)))
      ]

opposing_from_rest : (r o : Bool) → (r && not o) ≡ false → r ≡ true → o ≡ true
opposing_from_rest r true e h = refl
opposing_from_rest false false e h = absurd (false≢true h)
opposing_from_rest true false e h = absurd (false≢true (sym e))

pub below_top : (m i : ℕ) → m < 2 ^ 64 → in_mask m i ≡ true → i < 64
below_top m i h b = elim (cases_lt i 64) [ inl l ↦ l | inr g ↦ absurd (false≢true (sym (in_mask-above m i h g) ∙ b)) ]

-- the squares of a ray that aren't opposing
abbrev pub rest : ℕ → ℕ → ℕ
rest opp ray = bit_and ray (bit_not w64 opp)

pub rest_fits : (opp ray : ℕ) → rest opp ray < 2 ^ 64
rest_fits opp ray = omega (arith, and_le_l ray (bit_not w64 opp), and_comm ray (bit_not w64 opp), and_le_l (bit_not w64 opp) ray)

module _ (before : ℕ → ℕ → Bool) (one_way : IsOneWay before) (own opp ray : ℕ) (hopp : opp < 2 ^ 64) (hray : ray < 2 ^ 64) (met : List ℕ)
    (ray_is : IsRay before ray met)
  where
    is_ray : (i : ℕ) → in_mask ray i ≡ mem i met
    is_ray i = elim (cases_lt i 64) [ inl l ↦ ray_is.1 i l | inr g ↦ in_mask-above ray i hray g ∙ sym (above_none before i met ray_is.0 g) ]

    is_rest : (i : ℕ) → in_mask (rest opp ray) i ≡ (in_mask ray i && not (in_mask opp i))
    is_rest i = in_mask-and ray (bit_not w64 opp) i ∙ by (ltb i 64) refl
      where
        by : (b : Bool) → ltb i 64 ≡ b → (in_mask ray i && in_mask (bit_not w64 opp) i) ≡ (in_mask ray i && not (in_mask opp i))
        by true l = ap (λ b. in_mask ray i && b) (in_mask-not opp i hopp (grind (arith, nat_tests)))
        by false l =
            let none : in_mask ray i ≡ false = in_mask-above ray i hray (grind (arith, nat_tests)) in
            rw none

    met_opposing : (i : ℕ) → in_mask (rest opp ray) i ≡ false → mem i met ≡ true → in_mask opp i ≡ true
    met_opposing i n m = opposing_from_rest (in_mask ray i) (in_mask opp i) (sym (is_rest i) ∙ n) (is_ray i ∙ m)

    -- with no such square nothing is turned
    pub none_turned : ((i : ℕ) → in_mask (rest opp ray) i ≡ false) → (i : ℕ) → turns own opp met i ≡ false
    none_turned n i = rw (unclosed (in_mask own) (in_mask opp) met (λ j m. met_opposing j (n j) m))

    -- with t as the first of them, those before t are turned if t is own
    pub turned_before : (t : ℕ) → in_mask (rest opp ray) t ≡ true
        → ((i : ℕ) → before i t ≡ true → in_mask (rest opp ray) i ≡ false) → (i : ℕ) → turns own opp met i ≡ (in_mask own t && (in_mask ray i && before i t))
    turned_before t b n i =
        let on_ray = and_parts (in_mask ray t) (not (in_mask opp t)) (sym (is_rest t) ∙ b) in
        let e =
        ends before one_way (in_mask own) (in_mask opp) t (not-true (in_mask opp t) on_ray.1) met ray_is.0
        (sym (is_ray t) ∙ on_ray.0) (λ j l m. met_opposing j (n j l) m) in
        rw (e.0, is_ray i) (by (in_mask own t) (e.1 i))
      where
        by : (c : Bool) → mem i (run (in_mask opp) met) ≡ (mem i met && before i t)
            → mem i (cond c (run (in_mask opp) met) []) ≡ (c && (mem i met && before i t))
        by true e = e
        by false e = refl
